use Rattle.std.proofs.Common.{◌≡◌, ℕ, Bool, ap, ◌∙◌, subst, sym}
use Rattle.std.specs.Prelude.{slice_get}
use Rattle.onfi_problem.specs.Moves.{free_from}
use Rattle.onfi_core.specs.Steps.{outdated_by}
use Rattle.onfi_core.specs.View.{HalfView}
use Rattle.onfi_core.specs.Ways.{way_ready}
use Rattle.onfi_core.proofs.Found.{array_is, readied_is, works_inside}
use Rattle.onfi_core.proofs.Readied.{fields_readied}
use Rattle.onfi_core.proofs.half.Half.ready.Goals as goal

pub free_from-before-requires : goal.free_from-before-requires
free_from-before-requires c = (works_inside c.args.lun _ _ c.self.view_is c.requires.in_array).0

pub ready-requires : goal.ready-requires
ready-requires c =
    let works = works_inside c.args.lun _ _ c.self.view_is c.requires.in_array in
    record { there = works.0; in_array = array_is _ works.1 }

-- what was left of the plan stays where its end is unknown
abbrev IsOutdated : HalfView → ℕ → Bool → ℕ → Type 0
IsOutdated v lun outdated before = outdated ≡ outdated_by v.state.books v.state.outdated v.state.now.bus_free before

outdates : (v w : HalfView) (lun before : ℕ) (outdated : Bool) → v ≡ w → before ≡ free_from (slice_get v.state.now.luns lun) → IsOutdated w lun outdated before
    → IsOutdated v lun outdated (free_from (slice_get v.state.now.luns lun))
outdates v w lun before outdated e from is = subst (IsOutdated v lun outdated) from (subst (λ x. IsOutdated x lun outdated before) (sym e) is)

pub invariant_of-self : goal.invariant_of-self
invariant_of-self c =
    let works = works_inside c.args.lun _ _ c.self.view_is c.requires.in_array in
    let way = c.ready.ensures.ready ∙ ap (λ n. way_ready c.args.lun n c.self.inside.way) c.bus_free-bus_free.ensures in
    fields_readied _ _ _ _ _ _ _ _ c.args.lun _ _ c.self.invariant works.1 way (outdates _ _ c.args.lun _ _ c.self.view_is c.free_from-before.ensures c.outdated_by-self-inside.ensures)

pub returns-clause-readied : goal.returns-clause-readied
returns-clause-readied c =
    let way = c.ready.ensures.ready ∙ ap (λ n. way_ready c.args.lun n c.self.inside.way) c.bus_free-bus_free.ensures in
    readied_is _ _ c.args.lun _ _ c.self.view_is way (outdates _ _ c.args.lun _ _ c.self.view_is c.free_from-before.ensures c.outdated_by-self-inside.ensures)
