use Rattle.std.proofs.Common.{◌<◌, length, refl, arith}
use Rattle.onfi_chip.proofs.Lanes.{lane_sound, sim_set, lun_ready}
use Rattle.onfi_chip.proofs.dies.Dies.find_ready.Goals as goal

pub invariant_of-self : goal.invariant_of-self
invariant_of-self c =
    let s = c.self.inside in
    let within : c.from-at.result < length s.lanes.items = omega (arith, c.if-at-len.true, c.len.ensures) in
    let sound = lane_sound s.geometry s.store s.lanes.items c.from-at.result c.index_mut.result.now c.self.invariant within c.index_mut.ensures.value in
    sim_set s.geometry s.store s.store s.lanes.items c.from-at.result c.find_ready.new.self c.self.invariant refl (λ lun block h. h)
    (c.find_ready.ensures.kept s.store sound)

pub returns-then-at-len : goal.returns-then-at-len
returns-then-at-len c =
    let s = c.self.inside in
    let within : c.from-at.result < length s.lanes.items = omega (arith, c.if-at-len.true, c.len.ensures) in
    lun_ready s.geometry s.timing s.store s.lanes.items c.args.self.now c.from-at.result c.args.lun c.index_mut.result.now c.find_ready.new.self
    c.args.now c.self.view_is within c.index_mut.ensures.value c.from-at.ensures c.find_ready.ensures.ready
