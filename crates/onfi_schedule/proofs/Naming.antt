-- Phases with their names.
use Rattle.std.proofs.Common.{◌≡◌, ℕ, zero, suc, ◌+◌, ◌*◌, ◌<◌, ◌≤◌, ◌⊎◌, List, [], ◌∷◌, length, map, take, Some, get_or, inl, inr, refl, ap, ◌∙◌, subst, arith, length-append}
use Rattle.std.specs.Prelude.{slice_get, slice_index_or}
use Rattle.std.specs.List.{AllByRecursion as All}
use Rattle.std.proofs.lemmas.List.{length-map}
use Rattle.std.proofs.lemmas.Option.{slice_get-get_or}
use Rattle.onfi_timing.specs.Phases.{Lengths, phase_length}
use Rattle.onfi_request.specs.declared.want.Want.{Want}
use Rattle.onfi_group.specs.Words.{Has}
use Rattle.onfi_problem.specs.declared.moves.Lun.{Lun}
use Rattle.onfi_problem.specs.Position.{state_of}
use Rattle.onfi_problem.proofs.Lists.{map_get}
use Rattle.onfi_group.proofs.Lists.{Has-taken_cases}
use Rattle.onfi_problem.proofs.Perm.{All-weaker, All-each, All-has, Has-map}
use Rattle.onfi_schedule.specs.Schedule.{Phase, Before, end_of, latest}
use Rattle.onfi_schedule.specs.Conditions.{states_of}
use Rattle.onfi_schedule.specs.declared.slot.Slot.{Slot}
use Rattle.onfi_schedule.specs.Slots.{phases_in, named_slot, named_in}
use Rattle.onfi_timing.specs.Kinds.{operation_of}
use Rattle.onfi_schedule.specs.Names.{Named, post_of, owner_of, names_of, name_of, named_from, StartsFirst}
use Rattle.onfi_schedule.specs.declared.phase_name.Part.TheVariants.{Command}
use Rattle.onfi_schedule.specs.declared.phase_name.PhaseName.{PhaseName}

-- past the last one stands none
pub read_past : {A : Type 0} (xs : List A) (i : ℕ) (d : A) → length xs ≤ i → slice_index_or xs i d ≡ d
read_past [] i d h = refl
read_past (x ∷ xs) zero d h = absurd (omega (arith, h))
read_past (x ∷ xs) (suc i) d h = read_past xs i d (omega (arith, h))

-- two for each member
pub names_are : (next lun : ℕ) (ms : List Want) → length (names_of next lun ms) ≡ 2 * length ms
names_are next lun ms =
    let command : Want → PhaseName = λ m. record { part = Command; owner = owner_of next lun m } in
    let post : Want → PhaseName = λ m. record { part = post_of (operation_of m.kind); owner = owner_of next lun m } in
    omega (arith, length-append (map command ms) (map post ms), length-map ms command, length-map ms post)

-- the state at a place
pub state_at : (table : List (List Want)) (luns : List Lun) (i : ℕ) (d : Lun) → i < length luns → slice_get (states_of table luns) i ≡ Some (state_of table (get_or luns i d))
state_at table luns i d h = map_get (state_of table) luns i (get_or luns i d) (slice_get-get_or luns i d h)

-- all are phases of the LUN
pub all_of_lun : (next lun : ℕ) (spans : Lengths) (ms : List Want) (n : ℕ) (ts : List ℕ) → All (λ (x : Named). x.phase.lun ≡ lun) (named_from next lun spans ms n ts)
all_of_lun next lun spans ms n [] = tt
all_of_lun next lun spans ms n (t ∷ ts) = (refl, all_of_lun next lun spans ms (n + 1) ts)

-- phase n of members, at a start
abbrev pub phase_at : ℕ → ℕ → Lengths → List Want → ℕ → ℕ → Named
phase_at next lun spans ms n t = record { name = name_of next lun ms n; phase = record { lun = lun; start = t; length = phase_length spans (length ms) n } }

-- the phase that starts at a place
pub named_at : (next lun : ℕ) (spans : Lengths) (ms : List Want) (n : ℕ) (ts : List ℕ) (i t : ℕ) → slice_get ts i ≡ Some t
    → slice_get (named_from next lun spans ms n ts) i ≡ Some (phase_at next lun spans ms (n + i) t)
named_at next lun spans ms n [] i t h = cc
named_at next lun spans ms n (u ∷ ts) zero t h =
    let e : u ≡ t = cc in
    let z : n ≡ n + 0 = omega arith in
    ap Some (ap (λ k. phase_at next lun spans ms k u) z ∙ ap (λ k. phase_at next lun spans ms (n + 0) k) e)
named_at next lun spans ms n (u ∷ ts) (suc i) t h =
    let e : n + 1 + i ≡ n + suc i = omega arith in
    named_at next lun spans ms (n + 1) ts i t h ∙ ap Some (ap (λ k. phase_at next lun spans ms k t) e)

-- what all of them start at or after, so do their phases
pub all_from : (t : ℕ) (slots : List Slot) → All (λ (x : Named). t ≤ x.phase.start) (named_in slots) → All (λ (x : Phase). t ≤ x.start) (phases_in slots)
all_from t [] h = tt
all_from t (x ∷ xs) h = (h.0, all_from t xs h.1)

-- where the ones haven't ended when another one starts, some of the others are there
pub some_behind : (xs ys : List Phase) → (Before xs ys → ⊥) → 1 ≤ length ys
some_behind xs (y ∷ ys) h = omega arith
some_behind xs [] h = absurd (h (none xs))
  where
    none : (xs : List Phase) → Before xs []
    none [] = tt
    none (x ∷ xs) = (tt, none xs)

-- what ends by then ends before all that start from then on
ended : (xs ys : List Phase) (start : ℕ) → latest 0 xs ≤ start → All (λ (y : Phase). start ≤ y.start) ys → Before xs ys
ended [] ys start h all = tt
ended (x ∷ xs) ys start h all =
    (All-weaker (λ (y : Phase). start ≤ y.start) (λ (y : Phase). end_of x ≤ y.start) (λ y k. omega (arith, h)) ys all, ended xs ys start (omega (arith, h)) all)

-- .. and they last beyond the first start of the others
pub lasts_beyond : (xs ys : List Phase) (start : ℕ) → (Before xs ys → ⊥) → All (λ (y : Phase). start ≤ y.start) ys → start < latest 0 xs
lasts_beyond xs ys start h all = elim (le_or_lt (latest 0 xs) start) [ inl le ↦ absurd (h (ended xs ys start le all)) | inr lt ↦ lt ]
  where
    le_or_lt : (m n : ℕ) → (m ≤ n) ⊎ (n < m)
    le_or_lt m n = grind arith

pub some_before : (xs ys : List Phase) → (Before xs ys → ⊥) → 1 ≤ length xs
some_before [] ys h = absurd (h tt)
some_before (x ∷ xs) ys h = omega arith

pub some_slots : (slots : List Slot) → 1 ≤ length (phases_in slots) → 1 ≤ length slots
some_slots [] h = h
some_slots (x ∷ xs) h = omega arith

all_taken : (t : ℕ) (slots : List Slot) (i : ℕ) → length slots ≤ i → All (λ (y : Slot). t ≤ y.phase.start) (take i slots) → All (λ (y : Named). t ≤ y.phase.start) (named_in slots)
all_taken t [] i h a = tt
all_taken t (x ∷ xs) zero h a = absurd (omega (arith, h))
all_taken t (x ∷ xs) (suc i) h a = (a.0, all_taken t xs i (omega (arith, h)) a.1)

-- once all were looked at
pub starts_first : (slots : List Slot) (i : ℕ) (first : Slot) → length slots ≤ i → Has slots first → All (λ (y : Slot). first.phase.start ≤ y.phase.start) (take i slots)
    → StartsFirst (named_in slots) (named_slot first)
starts_first slots i first past there all = (Has-map named_slot slots first there, all_taken first.phase.start slots i past all)

-- one more was looked at
pub least_more : (slots : List Slot) (i : ℕ) (first slot next : Slot) → i < length slots → slot ≡ get_or slots i slot → next.phase.start ≤ first.phase.start → next.phase.start ≤ slot.phase.start
    → All (λ (y : Slot). first.phase.start ≤ y.phase.start) (take i slots) → All (λ (y : Slot). next.phase.start ≤ y.phase.start) (take (i + 1) slots)
least_more slots i first slot next within is down own all =
    All-each (λ (y : Slot). next.phase.start ≤ y.phase.start) (take (i + 1) slots) (λ y h. elim (Has-taken_cases slots i slot y within h) [
      | inl k ↦ (let le = All-has (λ (z : Slot). first.phase.start ≤ z.phase.start) (take i slots) y all k in omega (arith, le, down))
      | inr e ↦ subst (λ (z : Slot). next.phase.start ≤ z.phase.start) (is ∙ e) own
    ])
