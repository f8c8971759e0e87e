-- What the due phase leaves, seen where it is said.
use Rattle.std.proofs.Common.{◌≡◌, ℕ, zero, suc, ◌+◌, ◌-◌, ◌^◌, ◌<◌, ◌≤◌, Bool, true, false, List, [], ◌∷◌, ◌++◌, length, map, take, drop, get_or, Option, None, Some, inl, inr, refl, sym, ap, ◌∙◌, arith, length-set, length-take-le}
use Rattle.std.specs.Prelude.{◌==◌, remove, replicate, slice_index_or, slice_set}
use Rattle.std.specs.List.{list_any}
use Rattle.std.proofs.lemmas.Bool.{cases_Bool, eqb-true}
use Rattle.std.proofs.lemmas.Bool.Decides.{nat_tests}
use Rattle.std.proofs.lemmas.List.{length-drop, length-map, map-set, take_all}
use Rattle.onfi_request.specs.declared.want.Want.{Want}
use Rattle.onfi_flight.specs.declared.due.Due.{Due}
use Rattle.onfi_flight.specs.Flight.{groups_left, left_behind, starts_of as first_of, wants_behind}
use Rattle.onfi_flight.specs.Turns.{starts_in}
use Rattle.onfi_flight.specs.Times.{later_group, later_starts}
use Rattle.onfi_flight.proofs.Lists.{mapped_more}
use Rattle.onfi_script.specs.PlanLine.{want_named}
use Rattle.onfi_calls.specs.declared.channel.PlainWant.{PlainWant}
use Rattle.onfi_calls.specs.declared.schedule.PlainGroup.{PlainGroup}
use Rattle.onfi_calls.specs.declared.schedule.PlainRest.{PlainRest}
use Rattle.onfi_calls.specs.declared.schedule.PlainSchedule.{PlainSchedule}
use Rattle.onfi_calls.specs.InOrder.{is_half}
use Rattle.onfi_calls.specs.Delay.{later_rest, later_said, others, plain_behind, said_by, written_rests}
use Rattle.onfi_calls.specs.Problem.{want_of, wants_of}
use Rattle.onfi_calls.specs.ReadSchedule.{group_of, rest_of, starts_of}
use Rattle.onfi_calls.specs.PlainSchedule.{filled, no_rest, written_group, written_rest}
use Rattle.onfi_calls.proofs.Filled.{filled_next}

-- Starts

is_early : (x : ℕ) → is_half x ≡ false → x < 2 ^ 61
is_early x none = grind (arith, nat_tests)

pub early_at : (xs : List ℕ) (i d : ℕ) → list_any is_half xs ≡ false → i < length xs → get_or xs i d < 2 ^ 61
early_at [] i d none low = absurd (omega (arith, low))
early_at (x ∷ xs) zero d none low = elim (cases_Bool (is_half x)) [ inl hit ↦ absurd (let z : true ≡ false = rw hit at none in cc) | inr miss ↦ is_early x miss ]
early_at (x ∷ xs) (suc i) d none low = elim (cases_Bool (is_half x)) [
  | inl hit ↦ absurd (let z : true ≡ false = rw hit at none in cc)
  | inr miss ↦ (let more : list_any is_half xs ≡ false = rw miss at none in early_at xs i d more (omega (arith, low)))
]

-- Parts of lists

pub none_before : {A : Type 0} (test : A → Bool) (n : ℕ) (xs : List A) → list_any test xs ≡ false → list_any test (take n xs) ≡ false
none_before test zero [] none = none
none_before test zero (x ∷ xs) none = refl
none_before test (suc n) [] none = none
none_before test (suc n) (x ∷ xs) none = elim (cases_Bool (test x)) [
  | inl hit ↦ absurd (let z : true ≡ false = rw hit at none in cc)
  | inr miss ↦ (let more : list_any test xs ≡ false = rw miss at none in rw miss (none_before test n xs more))
]

pub none_behind : {A : Type 0} (test : A → Bool) (n : ℕ) (xs : List A) → list_any test xs ≡ false → list_any test (drop n xs) ≡ false
none_behind test zero [] none = none
none_behind test zero (x ∷ xs) none = none
none_behind test (suc n) [] none = none
none_behind test (suc n) (x ∷ xs) none = elim (cases_Bool (test x)) [
  | inl hit ↦ absurd (let z : true ≡ false = rw hit at none in cc)
  | inr miss ↦ (let more : list_any test xs ≡ false = rw miss at none in none_behind test n xs more)
]

pub part_behind : {A : Type 0} (n : ℕ) (xs : List A) → take (length xs - n) (drop n xs) ≡ drop n xs
part_behind n xs = take_all (length xs - n) (drop n xs) (let e = length-drop n xs in omega (arith, e))

removed_map : {A B : Type 0} (f : A → B) (xs : List A) (i : ℕ) → remove (map f xs) i ≡ map f (remove xs i)
removed_map f [] zero = refl
removed_map f [] (suc i) = refl
removed_map f (x ∷ xs) zero = refl
removed_map f (x ∷ xs) (suc i) = ap (λ ys. f x ∷ ys) (removed_map f xs i)

pub length_removed : {A : Type 0} (xs : List A) (i : ℕ) → i < length xs → length (remove xs i) ≡ length xs - 1
length_removed [] i low = absurd (omega (arith, low))
length_removed (x ∷ xs) zero low = omega arith
length_removed (x ∷ xs) (suc i) low = let e = length_removed xs i (omega (arith, low)) in omega (arith, e, low)

set_filled : {A : Type 0} (n : ℕ) (rest y : A) (xs : List A) (i : ℕ) → i < length xs → slice_set (filled n rest xs) i y ≡ filled n rest (slice_set xs i y)
set_filled n rest y xs i low = set_front xs (drop (length xs) (replicate n rest)) i y low ∙ ap (λ k. slice_set xs i y ++ drop k (replicate n rest)) (sym (length-set xs i y))
  where
    set_front : {A : Type 0} (xs ys : List A) (i : ℕ) (y : A) → i < length xs → slice_set (xs ++ ys) i y ≡ slice_set xs i y ++ ys
    set_front [] ys i y low = absurd (omega (arith, low))
    set_front (x ∷ xs) ys zero y low = refl
    set_front (x ∷ xs) ys (suc i) y low = ap (λ zs. x ∷ zs) (set_front xs ys i y (omega (arith, low)))

later_rests : (by : ℕ) (rs : List PlainRest) → map (later_rest by) rs ≡ map written_rest (map (later_starts by) (map rest_of rs))
later_rests by [] = refl
later_rests by (r ∷ rs) = ap (λ xs. later_rest by r ∷ xs) (later_rests by rs)

later_groups : (by : ℕ) (wants : List Want) (gs : List PlainGroup) → map (later_said by wants) gs ≡ map written_group (map (later_group by) (map (group_of wants) gs))
later_groups by wants [] = refl
later_groups by wants (g ∷ gs) = ap (λ xs. later_said by wants g ∷ xs) (later_groups by wants gs)

group_there : (wants : List Want) (gs : List PlainGroup) (at : ℕ) (d : PlainGroup) → at < length gs → slice_index_or (starts_in (map (group_of wants) gs)) at [] ≡ starts_of (slice_index_or gs at d)
group_there wants [] at d low = absurd (omega (arith, low))
group_there wants (g ∷ gs) zero d low = refl
group_there wants (g ∷ gs) (suc at) d low = group_there wants gs at d (omega (arith, low))

rest_there : (rs : List PlainRest) (at : ℕ) (d : PlainRest) → at < length rs → slice_index_or (map rest_of rs) at [] ≡ rest_of (slice_index_or rs at d)
rest_there [] at d low = absurd (omega (arith, low))
rest_there (r ∷ rs) zero d low = refl
rest_there (r ∷ rs) (suc at) d low = rest_there rs at d (omega (arith, low))

pub first_starts : (wants : List Want) (rs : List PlainRest) (gs : List PlainGroup) (lun at : ℕ) (d : PlainGroup) (place : Option ℕ) → place ≡ Some at → at < length gs
    → starts_of (slice_index_or gs at d) ≡ first_of (said_by wants rs gs) lun place
first_starts wants rs gs lun at d place is low = sym (ap (first_of (said_by wants rs gs) lun) is ∙ group_there wants gs at d low)

pub next_starts : (wants : List Want) (rs : List PlainRest) (gs : List PlainGroup) (lun : ℕ) (d : PlainRest) (place : Option ℕ) → place ≡ None → lun < length rs
    → rest_of (slice_index_or rs lun d) ≡ first_of (said_by wants rs gs) lun place
next_starts wants rs gs lun d place is low = sym (ap (first_of (said_by wants rs gs) lun) is ∙ rest_there rs lun d low)

-- .. of running groups
pub rests_then : (by : ℕ) (wants : List Want) (rs : List PlainRest) (gs : List PlainGroup) (due : Due) (starts : List ℕ) → due.lun < length rs → starts ≡ first_of (said_by wants rs gs) due.lun due.place
    → slice_set (filled 8 no_rest (map (later_rest by) rs)) due.lun (written_rest (later_starts by (drop 1 starts))) ≡ written_rests by (left_behind (said_by wants rs gs) due)
rests_then by wants rs gs due starts low is =
    let f : List ℕ → PlainRest = λ xs. written_rest (later_starts by xs) in
    let count : length (map (later_rest by) rs) ≡ length rs = length-map rs (later_rest by) in
    let new = drop 1 (first_of (said_by wants rs gs) due.lun due.place) in
    set_filled 8 no_rest (f (drop 1 starts)) (map (later_rest by) rs) due.lun (omega (arith, low, count))
    ∙ ap (λ xs. filled 8 no_rest (slice_set (map (later_rest by) rs) due.lun (f (drop 1 xs)))) is
    ∙ ap (λ xs. filled 8 no_rest (slice_set xs due.lun (f new))) (later_rests by rs)
    ∙ ap (filled 8 no_rest) (sym (map-set written_rest (map (later_starts by) (map rest_of rs)) due.lun (later_starts by new)))
    ∙ ap (λ xs. filled 8 no_rest (map written_rest xs)) (sym (map-set (later_starts by) (map rest_of rs) due.lun new))

-- .. and of new ones
pub groups_then : (by : ℕ) (wants : List Want) (gs : List PlainGroup) (place : Option ℕ) → map (later_said by wants) (others place gs) ≡ map written_group (map (later_group by) (groups_left place (map (group_of wants) gs)))
groups_then by wants gs None = later_groups by wants gs
groups_then by wants gs (Some at) = later_groups by wants (remove gs at) ∙ ap (λ xs. map written_group (map (later_group by) xs)) (sym (removed_map (group_of wants) gs at))

pub count_then : (by : ℕ) (wants : List Want) (gs : List PlainGroup) (place : Option ℕ) → length (others place gs) ≡ length (map (later_group by) (groups_left place (map (group_of wants) gs)))
count_then by wants gs None = sym (length-map (map (group_of wants) gs) (later_group by) ∙ length-map gs (group_of wants))
count_then by wants gs (Some at) =
    sym (length-map (remove (map (group_of wants) gs) at) (later_group by) ∙ ap length (removed_map (group_of wants) gs at) ∙ length-map (remove gs at) (group_of wants))

pub luns_then : (by : ℕ) (wants : List Want) (rs : List PlainRest) (gs : List PlainGroup) (due : Due) → length rs ≡ length (map (later_starts by) (left_behind (said_by wants rs gs) due).rest)
luns_then by wants rs gs due =
    let s = said_by wants rs gs in
    sym (length-map (left_behind s due).rest (later_starts by) ∙ length-set (map rest_of rs) due.lun (drop 1 (first_of s due.lun due.place)) ∙ length-map rs rest_of)

-- Groups

named_id : (wants : List Want) (id : ℕ) → (want_named wants id).id ≡ id
named_id [] id = refl
named_id (w ∷ wants) id = elim (cases_Bool (w.id == id)) [
  | inl hit ↦ rw hit (eqb-true w.id id hit)
  | inr miss ↦ rw miss (named_id wants id)
]

pub named_ids : (wants : List Want) (ids : List ℕ) → map (λ (w : Want). w.id) (map (want_named wants) ids) ≡ ids
named_ids wants [] = refl
named_ids wants (id ∷ ids) = ap (λ x. x ∷ map (λ (w : Want). w.id) (map (want_named wants) ids)) (named_id wants id) ∙ ap (λ xs. id ∷ xs) (named_ids wants ids)

append_assoc : {A : Type 0} (xs ys zs : List A) → (xs ++ ys) ++ zs ≡ xs ++ (ys ++ zs)
append_assoc [] ys zs = refl
append_assoc (x ∷ xs) ys zs = ap (λ ws. x ∷ ws) (append_assoc xs ys zs)

length_append : {A : Type 0} (xs ys : List A) → length (xs ++ ys) ≡ length xs + length ys
length_append [] ys = omega arith
length_append (x ∷ xs) ys = let e = length_append xs ys in omega (arith, e)

-- one more is put after those in front
pub put_more : {A B : Type 0} (f : A → B) (n from : ℕ) (rest : B) (front : List B) (xs : List A) (at : ℕ) (d : A) (y : B) (made : List B) → length front ≡ from → at < length xs → from + length xs ≤ n
    → y ≡ f (get_or xs at d) → made ≡ filled n rest (front ++ map f (take at xs)) → slice_set made (from + at) y ≡ filled n rest (front ++ map f (take (at + 1) xs))
put_more f n from rest front xs at d y made begins low few is so_far =
    let new = map f (take at xs) in
    let taken : length new ≡ at = length-map (take at xs) f ∙ length-take-le at xs (omega (arith, low)) in
    let count : length (front ++ new) ≡ from + at = (let e = length_append front new in omega (arith, e, begins, taken)) in
    let next = filled_next n rest y (front ++ new) (omega (arith, count, low, few)) in
    ap (λ zs. slice_set zs (from + at) y) so_far ∙ ap (λ i. slice_set (filled n rest (front ++ new)) i y) (sym count) ∙ next
    ∙ ap (filled n rest) (append_assoc front new (y ∷ []) ∙ ap (λ zs. front ++ zs) (mapped_more f xs at new d y low is refl))

-- Wants

pub left_again : (bits : ℕ) (place : Option ℕ) (group : List Want) (wants : List PlainWant) → wants_of bits (plain_behind place group wants) ≡ wants_behind place group (wants_of bits wants)
left_again bits None group wants = refl
left_again bits (Some at) group [] = refl
left_again bits (Some at) group (w ∷ wants) =
    let rest = left_again bits (Some at) group wants in
    elim (cases_Bool (list_any (λ m. m.id == w.id) group)) [
      | inl has ↦ rw has rest
      | inr hasnt ↦ rw hasnt (ap (λ xs. want_of bits w ∷ xs) rest)
    ]

-- Records by their fields

pub group_written : {members n : ℕ} {want ids start starts : List ℕ} → members ≡ n → want ≡ ids → start ≡ starts
    → (let g : PlainGroup = record { members = members; want = want; start = start } in g) ≡ record { members = n; want = ids; start = starts }
group_written m w s = rw (m, w, s) refl

pub schedule_written : {luns n groups k : ℕ} {rest rests : List PlainRest} {group all : List PlainGroup} → luns ≡ n → groups ≡ k → rest ≡ rests → group ≡ all
    → (let s : PlainSchedule = record { luns = luns; groups = groups; rest = rest; group = group } in s) ≡ record { luns = n; groups = k; rest = rests; group = all }
schedule_written l g r a = rw (l, g, r, a) refl
