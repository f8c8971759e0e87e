-- What a half does with a LUN that is found ready.
use Rattle.std.proofs.Common.{◌≡◌, ℕ, ◌<◌, Bool, true, length, Option, None, sym, ap, ◌∙◌, subst}
use Rattle.std.specs.Prelude.{slice_get}
use Rattle.onfi_problem.specs.Moves.{free_from}
use Rattle.onfi_core.specs.State.{HalfState, Way, way_of, with_way}
use Rattle.std.proofs.lemmas.Bool.{eq-eqb}
use Rattle.onfi_problem.specs.declared.lun_state.LunState.{LunState}
use Rattle.onfi_core.specs.Steps.{is_in_array, outdated_by, readied, ready_refusal}
use Rattle.onfi_core.specs.Ways.{way_ready}
use Rattle.onfi_core.specs.View.{HalfView}
use Rattle.onfi_core.proofs.Reach.{below, none_first, none_second, not_where}
use Rattle.onfi_core.proofs.Readied.{InArray, in_array}

-- the LUN is there, and its array works
works_there : (lun : ℕ) (h : HalfState) → ready_refusal lun h ≡ None → (lun < length h.now.luns) × InArray (slice_get h.now.luns lun)
works_there lun h open' = (
  below (length h.now.luns) lun (not_where _ _ (none_first _ _ open')),
  in_array lun (slice_get h.now.luns lun) (not_where _ _ (none_second _ _ (none_second _ _ open'))),
)

-- .. as the fields of the half stand
pub works_inside : (lun : ℕ) (v w : HalfView) → v ≡ w → ready_refusal lun w.state ≡ None → (lun < length v.state.now.luns) × InArray (slice_get v.state.now.luns lun)
works_inside lun v w e open' = works_there lun v.state (subst (λ (x : HalfView). ready_refusal lun x.state ≡ None) (sym e) open')

-- .. and what becomes of it
pub readied_is : (v w : HalfView) (lun : ℕ) (way' : Way) (outdated : Bool) → v ≡ w → way' ≡ way_ready lun v.state.now.bus_free (way_of v.state)
    → outdated ≡ outdated_by v.state.books v.state.outdated v.state.now.bus_free (free_from (slice_get v.state.now.luns lun))
    → (let z : HalfView = record v { state = record (with_way v.state way') { outdated = outdated } } in z) ≡ record w { state = readied lun w.state }
readied_is v w lun way' outdated same a b = rw (a, b) (ap (λ (x : HalfView). let z : HalfView = record x { state = readied lun x.state } in z) same)

-- its next phase is the first post
pub array_is : (state : Option LunState) → InArray state → is_in_array state ≡ true
array_is state a = ap is_in_array a.is ∙ eq-eqb a.next (length a.group) a.behind
