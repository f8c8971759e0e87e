use Rattle.std.proofs.Common.{◌≡◌, ◌*◌, ◌-◌, subst}
use Rattle.onfi_demand.specs.Look.{nothing_seen, Sees}
use Rattle.onfi_demand.specs.Remaining.{lengths_of}
use Rattle.onfi_demand.specs.Window.{chain_from, group_left, phases_left_on}
use Rattle.onfi_demand.specs.declared.look.Look.{Look}
use Rattle.onfi_demand.proofs.Seeing.{rest_sees}
use Rattle.onfi_demand.proofs.left.LunWork.see.Goals as goal

pub returns-in-Rest-clause-sees : goal.returns-in-Rest-clause-sees
returns-in-Rest-clause-sees c =
    let p = c.args.problem.now.problem in
    let work = c.args.self.now in
    let w = c.requires.work in
    let lun = c.args.lun in
    let n = c.in-Rest.next in
    let kept = c.of-lengths.result in
    let lengths = lengths_of kept in
    let members = c.of-lengths.ensures.members in
    let chain = subst (λ m. c.chain_from-chain.result ≡ chain_from lengths m n) members c.chain_from-chain.ensures.value in
    let look : Look = record { go = work.go; window = c.args.window } in
    let group = subst (λ m. Sees look nothing_seen (group_left lengths m c.args.rest (2 * m - n) n 0) c.see_group-seen.result) members c.see_group-seen.ensures.sees in
    let all = rest_sees p lun c.in-Rest.members n c.chain_from-chain.result c.args.rest c.in-Rest.operation c.in-Rest.sectors c.timing-timing.result.now lengths work look c.deref-in-Rest.result.now nothing_seen c.see_group-seen.result c.see_wants-in-Rest.result c.in_limits.ensures.limits.problem w c.in-Rest.is c.timing-timing.ensures c.of-lengths.ensures.lengths chain c.requires.rest c.deref-in-Rest.ensures.0 group c.see_wants-in-Rest.ensures.sees in
    subst (λ z. Sees (record { go = z; window = c.args.window }) nothing_seen (phases_left_on p lun) c.see_wants-in-Rest.result) w.go all
