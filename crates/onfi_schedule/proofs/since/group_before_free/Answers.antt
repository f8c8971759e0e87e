use Rattle.std.proofs.Common.{◌≡◌, ℕ, zero, suc, ◌<◌, ◌↔◌, List, [], ◌∷◌, length, Some, slice_index_or, refl, ap, ◌∙◌, subst, arith}
use Rattle.std.specs.Prelude.{slice_get}
use Rattle.onfi_request.specs.declared.want.Want.{Want}
use Rattle.onfi_group.specs.Group.{lun_of}
use Rattle.onfi_problem.specs.declared.lun_state.LunState.{LunState}
use Rattle.onfi_problem.specs.declared.moves.Lun.{Lun}
use Rattle.onfi_problem.specs.Position.{state_of}
use Rattle.onfi_problem.proofs.Places.{same_some}
use Rattle.onfi_schedule.specs.Schedule.{Placed}
use Rattle.onfi_schedule.specs.Conditions.{StateSince, FromSince, states_of}
use Rattle.onfi_schedule.proofs.since.group_before_free.Goals as goal

state_at : (table : List (List Want)) (luns : List Lun) (i : ℕ) (d : Lun) → i < length luns → slice_get (states_of table luns) i ≡ Some (state_of table (slice_index_or luns i d))
state_at table [] i d h = absurd (omega arith)
state_at table (x ∷ luns) zero d h = refl
state_at table (x ∷ luns) (suc i) d h = state_at table luns i d (omega arith)

since_at : (B : Type 0) (table : List (List Want)) (luns : List Lun) (g : Placed) (i : ℕ) (d : Lun) → i < length luns → i ≡ lun_of g.members → (B ↔ StateSince (state_of table (slice_index_or luns i d)) g.starts) → B ↔ FromSince (states_of table luns) g
since_at B table luns g i d within here own =
    let state = state_of table (slice_index_or luns i d) in
    let at : slice_get (states_of table luns) (lun_of g.members) ≡ Some state = rw (← here) (state_at table luns i d within) in
    ((λ b other e. subst (λ (s : LunState). StateSince s g.starts) (same_some state other _ at e) (own.0 b)), (λ f. own.1 (f state at)))

pub returns-clause-none : goal.returns-clause-none
returns-clause-none c = since_at _ c.args.table.now c.args.luns.now c.args.group.now c.lun-place.result _ c.if-place-luns.false (cc) (c.before_free.ensures.none c.args.table.now)

pub returns-clause-told : goal.returns-clause-told
returns-clause-told c = λ p s el there.
    let place = c.lun-place.result in
    let here : place ≡ lun_of c.args.group.now.members = cc in
    c.before_free.ensures.told c.args.table.now p s there (rw (← here) (ap (λ z. slice_get z place) el ∙ state_at c.args.table.now c.args.luns.now place _ c.if-place-luns.false))
