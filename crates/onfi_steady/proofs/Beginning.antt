-- A dispatcher of which nothing waits, and the phase that is due as one of its group.
use Rattle.std.proofs.Common.{◌≡◌, ℕ, zero, suc, ◌+◌, ◌-◌, ◌<◌, ◌≤◌, ◌∙◌, inl, inr, Bool, true, false, List, [], ◌∷◌, length, nat_lt, take, Option, Some, None, ap, arith, refl, subst, sym}
use Rattle.std.specs.Prelude.{IfSome, if◌then◌else◌, slice_get, slice_set}
use Rattle.std.specs.List.{AllByRecursion as All}
use Rattle.std.proofs.lemmas.Bool.{cases_eq, cases_lt, eq-eqb, ne_eqb}
use Rattle.onfi_timing.specs.declared.timing.Timing.{Timing}
use Rattle.onfi_request.specs.declared.want.Want.{Want}
use Rattle.onfi_group.specs.declared.rules.Rules.{Rules}
use Rattle.onfi_problem.specs.declared.lun_state.LunState.{LunState}
use Rattle.onfi_problem.specs.declared.lun_state.LunState.TheVariants.{Running}
use Rattle.onfi_problem.proofs.Lists.{map_get}
use Rattle.onfi_problem.proofs.Places.{get_set_other, get_set_same, get_within}
use Rattle.onfi_flight.specs.Flight.{member_of}
use Rattle.onfi_steady.specs.declared.begin.Begin.{Begin}
use Rattle.onfi_steady.specs.declared.dispatcher.Dispatcher.{Dispatcher}
use Rattle.onfi_steady.specs.declared.group_phase.GroupPhase.{GroupPhase}
use Rattle.onfi_steady.specs.declared.lun_books.LunBooks.{LunBooks}
use Rattle.onfi_steady.specs.declared.lun_books.LunOffer.{LunOffer}
use Rattle.onfi_steady.specs.declared.next.NextPhase.{NextPhase}
use Rattle.onfi_steady.specs.declared.run.Run.{Run}
use Rattle.onfi_steady.specs.declared.slot.Slot.{Slot}
use Rattle.onfi_steady.specs.declared.waiter.Waiter.{Waiter}
use Rattle.onfi_steady.specs.Waiting.{Books}
use Rattle.onfi_steady.specs.Slots.{IsBegin, begins, want_in, wants_in}
use Rattle.onfi_steady.specs.LunBooks.{IsGroupPhase, IsLunOffer, begin_of, runs, state_in, states_in}
use Rattle.onfi_steady.specs.Selecting.{begun_by, can_run}
use Rattle.onfi_steady.specs.Dispatcher.{IsDue, IsOf, IsPhaseOn, luns_of, states_of}
use Rattle.onfi_steady.proofs.Dispatching.{begins_there, lun_at, state_there}
use Rattle.onfi_steady.proofs.Selecting.{none_or_some, state_going}
use Rattle.onfi_steady.proofs.Slots.{begin_size}

-- what holds of each holds of the first ones
pub each_taken : {A : Type 0} (P : A → Type 0) (xs : List A) → ((at : ℕ) → IfSome (slice_get xs at) P) → (n at : ℕ) → IfSome (slice_get (take n xs) at) P
each_taken P xs each zero at = tt
each_taken P [] each (suc n) at = tt
each_taken P (x ∷ xs) each (suc n) zero = each 0
each_taken P (x ∷ xs) each (suc n) (suc at) = each_taken P xs (λ i. each (suc i)) n at

pub if_weaker : {A : Type 0} (P Q : A → Type 0) (o : Option A) → ((x : A) → P x → Q x) → IfSome o P → IfSome o Q
if_weaker P Q None h p = tt
if_weaker P Q (Some x) h p = h x p

-- what holds of one more place
pub one_set : {A : Type 0} (P : ℕ → A → Type 0) (xs : List A) (i : ℕ) (new : A) → i < length xs → P i new → ((at : ℕ) → at < i → IfSome (slice_get xs at) (P at)) →
    (at : ℕ) → at < i + 1 → IfSome (slice_get (slice_set xs i new) at) (P at)
one_set P xs i new within is before at h = elim (cases_eq at i) [
  | inl e ↦ subst (λ z. IfSome (slice_get (slice_set xs i new) z) (P z)) (sym e) (subst (λ o. IfSome o (P i)) (sym (get_set_same xs i (get_within xs i within).0 new (get_within xs i within).1)) is)
  | inr d ↦ subst (λ o. IfSome o (P at)) (sym (get_set_other xs i at new d)) (before at (omega arith))
]

-- .. holds of each where none is left
pub each_below : {A : Type 0} (P : ℕ → A → Type 0) (xs : List A) (i : ℕ) → length xs ≤ i → ((at : ℕ) → at < i → IfSome (slice_get xs at) (P at)) → (at : ℕ) → IfSome (slice_get xs at) (P at)
each_below P xs i all below at = elim (cases_lt at i) [
  | inl h ↦ below at h
  | inr h ↦ subst (λ o. IfSome o (P at)) (sym (none_past xs at (omega arith))) tt
]
  where
    none_past : {A : Type 0} (xs : List A) (at : ℕ) → length xs ≤ at → slice_get xs at ≡ None
    none_past [] at h = refl
    none_past (x ∷ xs) zero h = absurd (omega arith)
    none_past (x ∷ xs) (suc at) h = none_past xs at (omega arith)

-- what each place keeps is what its LUN does
pub states_are : (luns : List LunState) (books : List LunBooks) → length luns ≤ length books
    → ((at : ℕ) → IfSome (slice_get books at) (λ l. IfSome (slice_get luns at) (λ state. state_in l.run ≡ state))) → states_in (take (length luns) books) ≡ luns
states_are [] books few each = refl
states_are (state ∷ luns) [] few each = absurd (omega (arith, few))
states_are (state ∷ luns) (l ∷ books) few each =
    ap (λ z. z ∷ states_in (take (length luns) books)) (each 0) ∙ ap (λ z. state ∷ z) (states_are luns books (omega (arith, few)) (λ at. each (suc at)))

-- the member whose phase is next of what runs
pub member_there : (r : Run) (at : ℕ) (s : Slot) (w : Want) → length (wants_in (runs r)) ≡ r.members → at ≡ (if nat_lt r.next r.members then r.next else r.next - r.members)
    → slice_get (runs r) at ≡ Some s → w ≡ want_in s → member_of (wants_in (runs r)) r.next ≡ Some w
member_there r at s w size is there same =
    ap (λ n. slice_get (wants_in (runs r)) (if nat_lt r.next n then r.next else r.next - n)) size
    ∙ (ap (slice_get (wants_in (runs r))) (sym is) ∙ (map_get want_in (runs r) at s there ∙ ap Some (sym same)))

named : (timing : Timing) (group : List Want) (b : Begin) → IsBegin timing group b → IsBegin timing (wants_in (begins b)) b
named timing group b is = subst (λ g. IsBegin timing g b) (sym is.members) is

offered_of : (timing : Timing) (rules : Rules) (waiting : List Waiter) (offer : LunOffer) (erase : Bool) → IsLunOffer timing rules waiting offer
    → IsBegin timing (wants_in (begins (begin_of offer erase))) (begin_of offer erase)
offered_of timing rules waiting offer true is = named timing _ offer.erase is.erase
offered_of timing rules waiting offer false is = named timing _ offer.group is.group

begin_on : (timing : Timing) (luns : List LunState) (lun : ℕ) (group : List Want) (p : GroupPhase) → 1 ≤ length group → IsGroupPhase timing group 0 p → IsPhaseOn timing luns lun group p
begin_on timing luns lun [] p some is = absurd (omega (arith, some))
begin_on timing luns lun (m ∷ ms) p some is = is

-- the phase that is due
pub phase_due : (timing : Timing) (books : Books) (d : Dispatcher) (l : LunBooks) (next : NextPhase) → IsOf timing books d → IsDue d next
    → slice_get (luns_of d) d.due.lun ≡ Some l → can_run d.due.erase l ≡ true → (o : Option GroupPhase)
    → (1 ≤ l.run.members → IfSome o (IsGroupPhase timing (wants_in (runs l.run)) l.run.next))
    → ((group : List Want) → l.run.members ≡ 0 → IsBegin timing group (begin_of l.offer d.due.erase) → IfSome o (IsGroupPhase timing group 0))
    → IfSome o (IsPhaseOn timing (states_of d) next.lun next.members.items)
phase_due timing books d l next is due there run None goes starts = tt
phase_due timing books d l next is due there run (Some p) goes starts = elim (none_or_some l.run.members) [
  | inl none ↦
      let b : Begin = begin_of l.offer d.due.erase in
      let members : next.members.items ≡ wants_in (begins b) = sym due.members ∙ (ap (begun_by d.due.erase) there ∙ rw (eq-eqb l.run.members 0 none) refl) in
      let begin = offered_of timing books.rules _ l.offer d.due.erase ((lun_at timing books (luns_of d) d.due.lun l is.luns there).offered none) in
      let size = begin_size b in
      let more = begins_there d.due.erase l run none in
      let some : 1 ≤ length (wants_in (begins b)) = omega (arith, size, more) in
      subst (λ g. IsPhaseOn timing (states_of d) next.lun g p) (sym members) (begin_on timing (states_of d) next.lun (wants_in (begins b)) p some (starts (wants_in (begins b)) none begin))
  | inr some ↦
      let none : next.members.items ≡ [] = sym due.members ∙ (ap (begun_by d.due.erase) there ∙ rw (ne_eqb l.run.members 0 (λ z. omega arith)) refl) in
      let state : slice_get (states_of d) next.lun ≡ Some (Running (wants_in (runs l.run)) l.run.next l.run.since) =
      ap (slice_get (states_of d)) (sym due.lun) ∙ (state_there (luns_of d) d.due.lun l there ∙ ap Some (state_going l.run some)) in
      subst (λ g. IsPhaseOn timing (states_of d) next.lun g p) (sym none) (wants_in (runs l.run), l.run.next, l.run.since, state, goes some)
]
