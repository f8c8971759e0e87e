use Rattle.std.proofs.Common.{◌≡◌, ◌+◌, ◌∷◌, refl, ap, ◌∙◌}
use Rattle.onfi_timing.specs.Kinds.{spans_of}
use Rattle.onfi_chip.specs.Chip.{after_post}
use Rattle.onfi_chip.specs.Chip.Lun.{Posting}
use Rattle.onfi_chip.specs.Sim.{Sim, lun_of}
use Rattle.onfi_chip.proofs.Lanes.{lane_posts, lane_sound, sim_set, lun_found, lun_changed, form_of}
use Rattle.onfi_chip.proofs.dies.Dies.post.Goals as goal

pub invariant_of-self : goal.invariant_of-self
invariant_of-self c =
    let s = c.self.inside in
    let l = lane_posts s.lanes.items c.args.self.now.luns c.from.result c.args.place.lun _ (ap (λ (y : Sim). y.luns) c.self.view_is) c.from.ensures c.requires.3 in
    let sound = lane_sound s.geometry s.store s.lanes.items c.from.result c.index_mut.result.now c.self.invariant l c.index_mut.ensures.value in
    sim_set s.geometry s.store s.store s.lanes.items c.from.result c.pop.new.self c.self.invariant refl (λ lun block h. h) (c.pop.ensures.formed s.store sound).1

pub returns-clause-taken : goal.returns-clause-taken
returns-clause-taken c post left ready h =
    let s = c.self.inside in
    let l = lane_posts s.lanes.items c.args.self.now.luns c.from.result c.args.place.lun _ (ap (λ (y : Sim). y.luns) c.self.view_is) c.from.ensures h in
    let found = lun_found s.geometry s.timing s.store s.lanes.items c.args.self.now c.from.result c.args.place.lun c.index_mut.result.now (Posting (post ∷ left) ready) c.self.view_is l c.index_mut.ensures.value c.from.ensures h in
    let told = c.pop.ensures.taken post left ready found in
    let to : lun_of c.pop.new.self ≡ after_post left (c.args.now + (spans_of c.args.self.now.timing post.kind).post) = told.1 ∙ ap (λ (y : Sim). after_post left (c.args.now + (spans_of y.timing post.kind).post)) c.self.view_is in
    (told.0, lun_changed s.geometry s.timing s.store s.lanes.items c.args.self.now c.from.result c.args.place.lun c.pop.new.self (after_post left (c.args.now + (spans_of c.args.self.now.timing post.kind).post)) c.self.view_is c.from.ensures to)

pub returns-clause-form : goal.returns-clause-form
returns-clause-form c =
    let s = c.self.inside in
    let l = lane_posts s.lanes.items c.args.self.now.luns c.from.result c.args.place.lun _ (ap (λ (y : Sim). y.luns) c.self.view_is) c.from.ensures c.requires.3 in
    let sound = lane_sound s.geometry s.store s.lanes.items c.from.result c.index_mut.result.now c.self.invariant l c.index_mut.ensures.value in
    form_of s.geometry s.timing s.store s.lanes.items c.args.self.now c.pop.result c.self.view_is c.self.invariant (c.pop.ensures.formed s.store sound).0
