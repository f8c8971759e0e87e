-- The places that wait for their reply, one after another.
use Rattle.std.proofs.Common.{◌≡◌, ℕ, zero, suc, ◌+◌, ◌-◌, ◌<◌, ◌≤◌, inl, inr, true, false, List, [], ◌∷◌, ◌++◌, length, Option, Some, None, drop, refl, sym, ap, ◌∙◌, subst, append_assoc, append-nil, arith}
use Rattle.std.specs.Prelude.{slice_get, ◌==◌, min}
use Rattle.std.proofs.lemmas.Bool.{lt-ltb, le-ltb, cases_lt, eq-eqb, ne_eqb}
use Rattle.std.proofs.lemmas.List.{drop_all}
use Rattle.onfi_request.specs.declared.request.Item.{Item}
use Rattle.onfi_request.specs.declared.reply.Reply.{Reply}
use Rattle.onfi_group.specs.Words.{number}
use Rattle.onfi_problem.proofs.Places.{get_within, within_get}
use Rattle.slab.specs.Slab.{Slab, get}
use Rattle.onfi_core.specs.declared.slot.Slot.{Slot}
use Rattle.onfi_core.specs.Kept.{is_of_place}
use Rattle.onfi_core.specs.Unanswered.{senders_from, nearer, IsNearest}
use Rattle.onfi_core.specs.View.{AreSlots, HasSlot}
use Rattle.onfi_core.proofs.Lists.{drop_next, next_cases}

-- a slot's place has a slot
pub slot_here : (slots : Slab Slot) (key : ℕ) (slot : Slot) → key < slots.capacity → get slots key ≡ Some slot → HasSlot slots slot.place
slot_here slots key slot within at = (key, slot, within, at, refl)

-- a key without a slot changes nothing
pub nearest_none : (slots : Slab Slot) (key from : ℕ) (least : Option ℕ) → IsNearest slots key from least → get slots key ≡ None → IsNearest slots (key + 1) from least
nearest_none slots key from None h e = λ k slot low at. elim (next_cases k key low) [
  | inl l ↦ h k slot l at
  | inr q ↦ (let z : None ≡ Some slot = sym e ∙ ap (get slots) (sym q) ∙ at in cc)
]
nearest_none slots key from (Some place) h e = (
  h.0,
  h.1,
  λ k slot low at above. elim (next_cases k key low) [
    | inl l ↦ h.2 k slot l at above
    | inr q ↦ (let z : None ≡ Some slot = sym e ∙ ap (get slots) (sym q) ∙ at in cc)
  ],
)

-- one slot more, and those below its key
each_key : (P : Slot → Type 0) (slots : Slab Slot) (key : ℕ) (slot : Slot) → get slots key ≡ Some slot → P slot → ((k : ℕ) (other : Slot) → k < key → get slots k ≡ Some other → P other)
    → (k : ℕ) (other : Slot) → k < key + 1 → get slots k ≡ Some other → P other
each_key P slots key slot e own lower k other low at = elim (next_cases k key low) [
  | inl l ↦ lower k other l at
  | inr q ↦ (
      let both : Some slot ≡ Some other = sym e ∙ ap (get slots) (sym q) ∙ at in
      let same : slot ≡ other = cc in
      subst P same own)
]

pub nearest_some : (slots : Slab Slot) (key from : ℕ) (least r : Option ℕ) (slot : Slot) → IsNearest slots key from least → get slots key ≡ Some slot → HasSlot slots slot.place → r ≡ nearer least from slot.place → IsNearest slots (key + 1) from r
nearest_some slots key from None r slot h e has is =
    elim (cases_lt slot.place from) [
      | inl lt ↦ (
          let q : r ≡ None = is ∙ (rw (lt-ltb slot.place from lt) refl) in
          subst (IsNearest slots (key + 1) from) (sym q) (each_key (λ other. other.place < from) slots key slot e lt h))
      | inr ge ↦ (
          let q : r ≡ Some slot.place = is ∙ (rw (le-ltb slot.place from ge) refl) in
          let above = each_key (λ other. from ≤ other.place → slot.place ≤ other.place) slots key slot e (λ _. omega arith) (λ k other l at above. let z = h k other l at in omega arith) in
          subst (IsNearest slots (key + 1) from) (sym q) (ge, has, above))
    ]
nearest_some slots key from (Some least) r slot h e has is =
    elim (cases_lt slot.place from) [
      | inl lt ↦ (
          let q : r ≡ Some least = is ∙ (rw (lt-ltb slot.place from lt) refl) in
          subst (IsNearest slots (key + 1) from) (sym q) (h.0, h.1, each_key (λ other. from ≤ other.place → least ≤ other.place) slots key slot e (λ above. omega arith) h.2))
      | inr ge ↦ (
          let q : r ≡ Some (min least slot.place) = is ∙ (rw (le-ltb slot.place from ge) refl) in
          let low : from ≤ min least slot.place = (let a = h.0 in omega arith) in
          let there : HasSlot slots (min least slot.place) = elim (cases_lt least slot.place) [
            | inl lt ↦ (let m : min least slot.place ≡ least = omega arith in rw m h.1)
            | inr le ↦ (let m : min least slot.place ≡ slot.place = omega arith in rw m has)
          ] in
          let above = each_key (λ other. from ≤ other.place → min least slot.place ≤ other.place) slots key slot e (λ _. omega arith) (λ k other l at above. let z = h.2 k other l at above in omega arith) in
          subst (IsNearest slots (key + 1) from) (sym q) (low, there, above))
    ]

-- the places that are passed over have their reply
pub passed : (accepted : List Item) (posted : List Reply) (slots : Slab Slot) → AreSlots slots accepted posted → (n from : ℕ) → from + n ≤ length accepted
    → ((key : ℕ) (slot : Slot) → key < slots.capacity → get slots key ≡ Some slot → from ≤ slot.place → from + n ≤ slot.place)
    → senders_from posted from (drop from accepted) ≡ senders_from posted (from + n) (drop (from + n) accepted)
passed accepted posted slots a zero from low h = let e : from + 0 ≡ from = omega arith in rw e refl
passed accepted posted slots a (suc n) from low h =
    let x = get_within accepted from (omega arith) in
    let d = drop_next accepted from x.0 x.1 in
    let answered : (number (is_of_place from) posted == 0) ≡ false = ne_eqb (number (is_of_place from) posted) 0 (λ none.
    let s = a.kept from (omega arith) none in
    let p = s.4 in
    let k = h s.0 s.1 s.2 s.3 (omega arith) in
    omega arith) in
    let rest = passed accepted posted slots a n (from + 1) (omega arith) (λ key slot within at above. let k = h key slot within at (omega arith) in omega arith) in
    let e : from + suc n ≡ from + 1 + n = omega arith in
    rw (d, answered, e) rest

-- a slot's place was accepted
pub in_accepted : (slots : Slab Slot) (accepted : List Item) (posted : List Reply) → AreSlots slots accepted posted → (place : ℕ) → HasSlot slots place → place < length accepted
in_accepted slots accepted posted a place (key, slot, within, at, is) = subst (λ i. i < length accepted) is (within_get accepted slot.place slot.item (a.items key slot at))

-- one more of them
pub one_more : (accepted : List Item) (posted : List Reply) (slots : Slab Slot) → AreSlots slots accepted posted → (from place key : ℕ) (slot : Slot) (item : Item) (done all : List (ℕ × ℕ))
    → IsNearest slots slots.capacity from (Some place) → get slots key ≡ Some slot → slot.place ≡ place → item ≡ slot.item
    → done ++ senders_from posted from (drop from accepted) ≡ all
    → (done ++ (item.host, item.serial) ∷ []) ++ senders_from posted (place + 1) (drop (place + 1) accepted) ≡ all
one_more accepted posted slots a from place key slot item done all near at place_is item_is so =
    let low = near.0 in
    let below = in_accepted slots accepted posted a place near.1 in
    let there : slice_get accepted place ≡ Some slot.item = subst (λ i. slice_get accepted i ≡ Some slot.item) place_is (a.items key slot at) in
    let waits : number (is_of_place place) posted ≡ 0 = subst (λ i. number (is_of_place i) posted ≡ 0) place_is (a.waits key slot at) in
    let n = place - from in
    let e : from + n ≡ place = omega arith in
    let p = passed accepted posted slots a n from (omega arith) (λ key slot k at above. let z = near.2 key slot k at above in omega arith) in
    let p' : senders_from posted from (drop from accepted) ≡ senders_from posted place (drop place accepted) = rw e at p in
    let d = drop_next accepted place slot.item there in
    let open' : (number (is_of_place place) posted == 0) ≡ true = eq-eqb (number (is_of_place place) posted) 0 waits in
    let q : senders_from posted place (drop place accepted) ≡ (item.host, item.serial) ∷ senders_from posted (place + 1) (drop (place + 1) accepted) = rw (d, open', item_is) refl in
    append_assoc done ((item.host, item.serial) ∷ []) (senders_from posted (place + 1) (drop (place + 1) accepted)) ∙ ap (λ zs. done ++ zs) (sym (p' ∙ q)) ∙ so

-- no more
pub no_more : (accepted : List Item) (posted : List Reply) (slots : Slab Slot) → AreSlots slots accepted posted → (from : ℕ) (done all : List (ℕ × ℕ)) → from ≤ length accepted
    → IsNearest slots slots.capacity from None → done ++ senders_from posted from (drop from accepted) ≡ all → done ≡ all
no_more accepted posted slots a from done all within near so =
    let n = length accepted - from in
    let e : from + n ≡ length accepted = omega arith in
    let p = passed accepted posted slots a n from (omega arith) (λ key slot k at above. absurd (let z = near key slot k at in omega arith)) in
    let z : senders_from posted from (drop from accepted) ≡ [] = p ∙ (rw (drop_all (from + n) accepted (omega arith)) refl) in
    sym (append-nil done) ∙ ap (λ zs. done ++ zs) (sym z) ∙ so
