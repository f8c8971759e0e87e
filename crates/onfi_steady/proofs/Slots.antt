-- What is kept as numbers.
use Rattle.std.proofs.Common.{◌≡◌, ℕ, zero, suc, ◌+◌, ◌-◌, ◌<◌, ◌≤◌, ◌∙◌, inl, inr, Bool, true, false, List, [], ◌∷◌, ◌++◌, get_or, length, map, take, nat_lt, Option, Some, None, ap, refl, sym, arith}
use Rattle.std.specs.Prelude.{◌==◌, cond, not, if◌then◌else◌, IfSome, slice_get, slice_index_or}
use Rattle.std.specs.List.{filter, list_any}
use Rattle.std.proofs.lemmas.Bool.{cases_Bool, le-ltb}
use Rattle.std.proofs.lemmas.Option.{slice_get-get_or}
use Rattle.std.proofs.lemmas.List.Elements.{filter-append}
use Rattle.std.proofs.lemmas.List.{append-nil, length-map, length-take-le, map-append, take_more}
use Rattle.onfi_timing.specs.declared.kind.Kind.TheVariants.{Read}
use Rattle.onfi_timing.specs.declared.timing.Timing.{Timing}
use Rattle.onfi_timing.specs.Kinds.{spans_of}
use Rattle.onfi_timing.specs.Phases.{phase_length}
use Rattle.onfi_request.specs.declared.want.Want.{Want}
use Rattle.onfi_group.specs.Group.{group_spans, is_member}
use Rattle.onfi_problem.proofs.Lists.{map_get}
use Rattle.onfi_steady.specs.declared.begin.Begin.{Begin}
use Rattle.onfi_steady.specs.declared.run.Run.{Run}
use Rattle.onfi_steady.specs.declared.slot.Slot.{Slot}
use Rattle.onfi_steady.specs.declared.waiter.Waiter.{Waiter}
use Rattle.onfi_steady.specs.Offer.{firsts, is_kind}
use Rattle.onfi_steady.specs.Kept.{firsts_with}
use Rattle.onfi_steady.specs.Next.{is_number}
use Rattle.onfi_steady.specs.Waiting.{greatest_number, left_waiting, passed_by}
use Rattle.onfi_steady.specs.Slots.{begins, begins_with, has_number, left_of, left_over, left_with, others_of, others_with, waiter_in, waiters_in, want_in, wants_in}
use Rattle.onfi_steady.specs.LunBooks.{runs}
use Rattle.onfi_steady.specs.Selecting.{has_newest}
use Rattle.onfi_steady.proofs.Firsts.{firsts_push}
use Rattle.onfi_steady.proofs.KeptBus.{any_one_more}

-- four numbers in a row
pub members_of_four : (ms : List Want) (s0 s1 s2 s3 : Slot) → length ms ≤ 4 →
    IfSome (slice_get ms 0) (λ m. want_in s0 ≡ m) → IfSome (slice_get ms 1) (λ m. want_in s1 ≡ m) →
    IfSome (slice_get ms 2) (λ m. want_in s2 ≡ m) → IfSome (slice_get ms 3) (λ m. want_in s3 ≡ m) →
    wants_in (take (length ms) (s0 ∷ s1 ∷ s2 ∷ s3 ∷ [])) ≡ ms
members_of_four [] s0 s1 s2 s3 few a b c d = refl
members_of_four (w ∷ []) s0 s1 s2 s3 few a b c d = ap (λ z. z ∷ []) a
members_of_four (w ∷ x ∷ []) s0 s1 s2 s3 few a b c d = ap (λ z. z ∷ want_in s1 ∷ []) a ∙ ap (λ z. w ∷ z ∷ []) b
members_of_four (w ∷ x ∷ y ∷ []) s0 s1 s2 s3 few a b c d =
    ap (λ z. z ∷ want_in s1 ∷ want_in s2 ∷ []) a ∙ (ap (λ z. w ∷ z ∷ want_in s2 ∷ []) b ∙ ap (λ z. w ∷ x ∷ z ∷ []) c)
members_of_four (w ∷ x ∷ y ∷ v ∷ []) s0 s1 s2 s3 few a b c d =
    ap (λ z. z ∷ want_in s1 ∷ want_in s2 ∷ want_in s3 ∷ []) a
    ∙ (ap (λ z. w ∷ z ∷ want_in s2 ∷ want_in s3 ∷ []) b ∙ (ap (λ z. w ∷ x ∷ z ∷ want_in s3 ∷ []) c ∙ ap (λ z. w ∷ x ∷ y ∷ z ∷ []) d))
members_of_four (w ∷ x ∷ y ∷ v ∷ u ∷ us) s0 s1 s2 s3 few a b c d = absurd (omega arith)

taken_size : (slots : List Slot) (n : ℕ) → n ≤ length slots → length (wants_in (take n slots)) ≡ n
taken_size slots n h = length-map (take n slots) want_in ∙ length-take-le n slots h

pub begin_size : (b : Begin) → length (wants_in (begins b)) ≡ b.members
begin_size b = taken_size b.member b.members (let four = b.four in let few = b.few in omega arith)

pub run_size : (r : Run) → length (wants_in (runs r)) ≡ r.members
run_size r = taken_size r.member r.members (let four = r.four in let few = r.few in omega arith)

-- members by their numbers
pub any_number : (id : ℕ) (ms : List Slot) → has_number ms id ≡ list_any (λ (m : Want). m.id == id) (wants_in ms)
any_number id [] = refl
any_number id (m ∷ ms) = rw (any_number id ms) refl

pub any_newest : (newest : Option ℕ) (ms : List Slot) → has_newest newest ms ≡ list_any (is_number newest) (wants_in ms)
any_newest None [] = refl
any_newest None (m ∷ ms) = any_newest None ms
any_newest (Some id) ms = any_number id ms

-- what is left, as requests that wait
module _ (lun : ℕ) (b : Begin) where
  pass_waits : (s : Slot) → waiter_in (left_over lun b.last s) ≡ passed_by lun b.last (waiter_in s)
  pass_waits s = elim (cases_Bool (s.lun == lun)) [
    | inl k ↦ elim (cases_Bool (nat_lt s.id b.last)) [ inl q ↦ rw (k, q) refl | inr q ↦ rw (k, q) refl ]
    | inr k ↦ rw k refl
  ]

  begins_waits : (s : Slot) → begins_with lun (begins b) s ≡ (if s.lun == lun then is_member (wants_in (begins b)) (want_in s) else false)
  begins_waits s = ap (λ z. if s.lun == lun then z else false) (any_number s.id (begins b))

  waits_by : (s : Slot) (rest : List Slot) (others : List Waiter) (x y : Bool) → x ≡ y → waiters_in (map (left_over lun b.last) rest) ≡ map (passed_by lun b.last) others →
      waiters_in (map (left_over lun b.last) (cond (not x) (s ∷ rest) rest)) ≡ map (passed_by lun b.last) (cond (not y) (waiter_in s ∷ others) others)
  waits_by s rest others true true e h = h
  waits_by s rest others false false e h = ap (λ z. z ∷ waiters_in (map (left_over lun b.last) rest)) (pass_waits s) ∙ ap (λ z. passed_by lun b.last (waiter_in s) ∷ z) h
  waits_by s rest others true false e h = absurd cc
  waits_by s rest others false true e h = absurd cc

  left_by_last : (slots : List Slot) →
      waiters_in (left_of lun b slots) ≡ map (passed_by lun b.last) (filter (λ (w : Waiter). not (if w.want.lun == lun then is_member (wants_in (begins b)) w.want else false)) (waiters_in slots))
  left_by_last [] = refl
  left_by_last (s ∷ slots) = waits_by s (filter (λ z. not (begins_with lun (begins b) z)) slots)
      (filter (λ (w : Waiter). not (if w.want.lun == lun then is_member (wants_in (begins b)) w.want else false)) (waiters_in slots)) _ _ (begins_waits s) (left_by_last slots)

  pub left_waits : (slots : List Slot) → b.last ≡ greatest_number 0 (wants_in (begins b)) → waiters_in (left_of lun b slots) ≡ left_waiting lun (wants_in (begins b)) (waiters_in slots)
  left_waits slots e = left_by_last slots
      ∙ ap (λ z. map (passed_by lun z) (filter (λ (w : Waiter). not (if w.want.lun == lun then is_member (wants_in (begins b)) w.want else false)) (waiters_in slots))) e

-- one more of those that may begin
module _ (slots : List Slot) (i : ℕ) (d : Slot) (h : i < length slots) where
  waiters_more : waiters_in (take (i + 1) slots) ≡ waiters_in (take i slots) ++ waiter_in (get_or slots i d) ∷ []
  waiters_more = ap waiters_in (take_more slots i d h) ∙ map-append waiter_in (take i slots) (get_or slots i d ∷ [])

  pub firsts_more : firsts (waiters_in (take (i + 1) slots)) ≡ firsts_with (firsts (waiters_in (take i slots))) (waiter_in (get_or slots i d))
  firsts_more = ap firsts waiters_more ∙ firsts_push (waiters_in (take i slots)) (waiter_in (get_or slots i d))

  any_more : list_any (is_kind Read) (waiters_in (take (i + 1) slots)) ≡ (if list_any (is_kind Read) (waiters_in (take i slots)) then true else is_kind Read (waiter_in (get_or slots i d)))
  any_more = ap (list_any (is_kind Read)) waiters_more ∙ any_one_more (is_kind Read) (waiters_in (take i slots)) (waiter_in (get_or slots i d))

  pub reads_now : is_kind Read (waiter_in (get_or slots i d)) ≡ true → list_any (is_kind Read) (waiters_in (take (i + 1) slots)) ≡ true
  reads_now e = any_more ∙ (ap (λ z. if list_any (is_kind Read) (waiters_in (take i slots)) then true else z) e ∙ go (list_any (is_kind Read) (waiters_in (take i slots))))
    where
      go : (x : Bool) → (if x then true else true) ≡ true
      go true = refl
      go false = refl

  pub reads_still : is_kind Read (waiter_in (get_or slots i d)) ≡ false → list_any (is_kind Read) (waiters_in (take (i + 1) slots)) ≡ list_any (is_kind Read) (waiters_in (take i slots))
  reads_still e = any_more ∙ (ap (λ z. if list_any (is_kind Read) (waiters_in (take i slots)) then true else z) e ∙ go (list_any (is_kind Read) (waiters_in (take i slots))))
    where
      go : (x : Bool) → (if x then true else false) ≡ x
      go true = refl
      go false = refl

-- one request more
pub wants_more : (slots : List Slot) (i : ℕ) (d : Slot) → i < length slots → wants_in (take (i + 1) slots) ≡ wants_in (take i slots) ++ want_in (get_or slots i d) ∷ []
wants_more slots i d h = ap wants_in (take_more slots i d h) ∙ map-append want_in (take i slots) (get_or slots i d ∷ [])

-- the post of a member
index_found : {A : Type 0} (f : A → ℕ) (xs : List A) (i : ℕ) (x : A) → slice_get xs i ≡ Some x → slice_index_or (map f xs) i 0 ≡ f x
index_found f [] i x e = absurd cc
index_found f (y ∷ xs) zero x e = cc
index_found f (y ∷ xs) (suc i) x e = index_found f xs i x e

pub post_of : (timing : Timing) (ms : List Slot) (phase : ℕ) (m : Slot) → length ms ≤ phase → phase - length ms < length ms → m ≡ get_or ms (phase - length ms) m →
    phase_length (group_spans timing (wants_in ms)) (length (wants_in ms)) phase ≡ (spans_of timing (want_in m).kind).post
post_of timing ms phase m h within e =
    let there : slice_get ms (phase - length ms) ≡ Some m = slice_get-get_or ms (phase - length ms) m within ∙ ap Some (sym e) in
    rw (length-map ms want_in, le-ltb phase (length ms) h) (index_found (λ (x : Want). (spans_of timing x.kind).post) (wants_in ms) (phase - length ms) (want_in m) (map_get want_in ms (phase - length ms) m there))

-- one more of those that wait on
pub left_more : (lun : ℕ) (b : Begin) (slots : List Slot) (i : ℕ) (d : Slot) → i < length slots → left_of lun b (take (i + 1) slots) ≡ left_with lun b (left_of lun b (take i slots)) (get_or slots i d)
left_more lun b slots i d h = ap (left_of lun b) (take_more slots i d h) ∙ by_test (take i slots) (get_or slots i d) (begins_with lun (begins b) (get_or slots i d)) refl
  where
    pushed : (ys : List Slot) (x : Slot) (t : Bool) → map (left_over lun b.last) (ys ++ cond (not t) (x ∷ []) []) ≡ (if not t then map (left_over lun b.last) ys ++ left_over lun b.last x ∷ [] else map (left_over lun b.last) ys)
    pushed ys x true = ap (map (left_over lun b.last)) (append-nil ys)
    pushed ys x false = map-append (left_over lun b.last) ys (x ∷ [])

    by_test : (xs : List Slot) (x : Slot) (t : Bool) → begins_with lun (begins b) x ≡ t → left_of lun b (xs ++ x ∷ []) ≡ (if not t then left_of lun b xs ++ left_over lun b.last x ∷ [] else left_of lun b xs)
    by_test xs x t e = ap (map (left_over lun b.last)) (filter-append (λ s. not (begins_with lun (begins b) s)) xs (x ∷ []) ∙ ap (λ z. filter (λ s. not (begins_with lun (begins b) s)) xs ++ cond (not z) (x ∷ []) []) e) ∙ pushed (filter (λ s. not (begins_with lun (begins b) s)) xs) x t

-- one more of those that have another number
module _ (id : ℕ) where
  abbrev is_other : Slot → Bool
  is_other s = not (s.id == id)

  pub others_more : (slots : List Slot) (i : ℕ) (d : Slot) → i < length slots → others_of id (take (i + 1) slots) ≡ others_with id (others_of id (take i slots)) (get_or slots i d)
  others_more slots i d h = ap (filter is_other) (take_more slots i d h) ∙ (filter-append is_other (take i slots) (get_or slots i d ∷ []) ∙ by_test (others_of id (take i slots)) (get_or slots i d) (is_other (get_or slots i d)))
    where
      by_test : (xs : List Slot) (x : Slot) (t : Bool) → xs ++ cond t (x ∷ []) [] ≡ (if t then xs ++ x ∷ [] else xs)
      by_test xs x true = refl
      by_test xs x false = append-nil xs

  pub others_wait : (slots : List Slot) → waiters_in (others_of id slots) ≡ filter (λ (w : Waiter). not (w.want.id == id)) (waiters_in slots)
  others_wait [] = refl
  others_wait (s ∷ slots) = by_test (others_of id slots) (is_other s) (others_wait slots)
    where
      by_test : (rest : List Slot) (t : Bool) → waiters_in rest ≡ filter (λ (w : Waiter). not (w.want.id == id)) (waiters_in slots) →
          waiters_in (cond t (s ∷ rest) rest) ≡ cond t (waiter_in s ∷ filter (λ (w : Waiter). not (w.want.id == id)) (waiters_in slots)) (filter (λ (w : Waiter). not (w.want.id == id)) (waiters_in slots))
      by_test rest true h = ap (λ z. waiter_in s ∷ z) h
      by_test rest false h = h
