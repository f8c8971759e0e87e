-- A held reply goes out, or comes back.
use Rattle.std.proofs.Common.{◌≡◌, ◌≢◌, ℕ, ◌+◌, ◌<◌, ◌≤◌, inl, inr, true, false, List, [], ◌∷◌, ◌++◌, length, Option, Some, None, take, drop, refl, sym, ap, ◌∙◌, subst, length-append, arith}
use Rattle.std.specs.Prelude.{slice_index_or, ◌==◌, option_to_list}
use Rattle.std.specs.List.{filter}
use Rattle.std.proofs.lemmas.Bool.{ne_eqb}
use Rattle.std.proofs.lemmas.Bool.Decides.{nat_tests}
use Rattle.std.proofs.lemmas.List.{length-take-le}
use Rattle.onfi_request.specs.declared.request.Item.{Item}
use Rattle.onfi_request.specs.declared.reply.Reply.{Reply}
use Rattle.onfi_group.specs.Words.{number}
use Rattle.onfi_problem.proofs.Places.{same_place, within_get}
use Rattle.slab.specs.Slab.{Slab, get, slab_len, Updates}
use Rattle.onfi_core.specs.declared.setup.Setup.{Setup}
use Rattle.onfi_core.specs.declared.slot.Slot.{Slot}
use Rattle.onfi_core.specs.declared.lent.Lent.{Lent}
use Rattle.onfi_core.specs.State.{HalfState, is_to}
use Rattle.onfi_core.specs.Steps.{GoesOut}
use Rattle.onfi_core.specs.Kept.{is_of_place}
use Rattle.onfi_core.specs.View.{HasSlot, AreSlots, IsOldestAt, IsOldest, IsLent, AreFields}
use Rattle.onfi_core.proofs.Bus.{number-append}
use Rattle.onfi_core.proofs.Few.{replies_few}
use Rattle.onfi_core.proofs.Hosts.{sound_posted}
use Rattle.onfi_core.proofs.Lists.{cut_there, index_get}
use Rattle.onfi_core.proofs.Next.{not_posted, was_accepted}
use Rattle.onfi_core.proofs.Halves.{fields_but}

pub oldest_is : (host at : ℕ) (held kept : List Reply) (r : Reply) → (o : IsOldestAt host kept at) → kept ≡ held → r ≡ o.reply → IsOldest host held r
oldest_is host at held kept r o same is = record {
  before = take at kept;
  behind = drop (at + 1) kept;
  is = sym same ∙ cut_there kept at r (o.there ∙ ap Some (sym is));
  own = ap (λ (x : Reply). x.host) is ∙ o.own;
  none = o.before;
}

-- the reply that stands there
pub reply_at : (host at : ℕ) (kept : List Reply) (r : Reply) → (o : IsOldestAt host kept at) → r ≡ slice_index_or kept at r → r ≡ o.reply
reply_at host at kept r o is = is ∙ index_get kept at o.reply r o.there

-- where nothing is lent
pub settled_is : (held kept : List Reply) (at : Option Lent) (lent : Option Reply) → IsLent held kept at lent → lent ≡ None → at ≡ None
settled_is held kept None lent l none = refl
settled_is held kept (Some at) lent l none = (let e : Some l.0 ≡ None = sym l.3 ∙ none in cc)

pub fields_lent : (s : Setup) (slots : Slab Slot) (came : ℕ) (room room' : ℕ) (kept kept' : List Reply) (h : HalfState) (lent lent' : Option Reply) (host at : ℕ) (r : Reply) (accepted' : List Item) (held' posted' : List Reply)
    → AreFields s slots came room kept None h lent → (o : IsOldestAt host kept at) → r ≡ o.reply → kept' ≡ take at kept ++ drop (at + 1) kept → room' ≡ room
    → accepted' ≡ h.accepted → held' ≡ h.held → posted' ≡ h.posted → lent' ≡ Some r
    → AreFields s slots came room' kept' (Some (record { at = at; place = r.place })) (record h { accepted = accepted'; held = held'; posted = posted' }) lent'
fields_lent s slots came room room' kept kept' h lent lent' host at r accepted' held' posted' f o is k c e0 e1 e2 e3 =
    let there = o.there ∙ ap Some (sym is) in
    let own : r.host ≡ host = ap (λ (x : Reply). x.host) is ∙ o.own in
    let none : filter (is_to r.host) (take at kept) ≡ [] = subst (λ i. filter (is_to i) (take at kept) ≡ []) (sym own) o.before in
    let low = within_get kept at r there in
    rw (e0, e1, e2, e3) (fields_but s slots came room room' kept kept' None (Some (record { at = at; place = r.place })) h h lent (Some r) f refl refl c
    (r, take at kept, drop (at + 1) kept, refl, sym f.lending.1 ∙ cut_there kept at r there, k, length-take-le at kept (omega arith), refl, none) f.sound)

same_reply : (r q : Reply) → Some r ≡ Some q → r ≡ q
same_reply r q e = cc

-- there is room for the reply that comes back
pub room_back : (s : Setup) (slots : Slab Slot) (came : ℕ) (room : ℕ) (kept : List Reply) (at : Lent) (h : HalfState) (lent : Option Reply) → AreFields s slots came room kept (Some at) h lent → (length kept < room) × (at.at ≤ length kept)
room_back s slots came room kept at h lent f =
    let (r, before, behind, is, held, left, count, place, none) = f.lending in
    let few = replies_few s h f.sound in
    let a = f.slots_are.total in
    let b = f.slots_are.few in
    let c = f.room_is in
    let l1 = ap length held ∙ length-append before (r ∷ behind) in
    let l2 = ap length left ∙ length-append before behind in
    (omega arith, omega arith)

-- the slot of the reply that is lent
pub lent_slot : (s : Setup) (slots : Slab Slot) (came : ℕ) (room : ℕ) (kept : List Reply) (at : Lent) (h : HalfState) (lent : Option Reply) → AreFields s slots came room kept (Some at) h lent → HasSlot slots at.place
lent_slot s slots came room kept at h lent f =
    let (r, before, behind, is, held, left, count, place, none) = f.lending in
    let t : (r.place == r.place) ≡ true = grind (arith, nat_tests) in
    let a = ap (number (is_of_place r.place)) held ∙ number-append (is_of_place r.place) before (r ∷ behind) in
    let one : 1 ≤ number (is_of_place r.place) (r ∷ behind) = rw t (omega arith) in
    let o = f.sound.once r.place in
    let there' = was_accepted s.geometry 0 r.place h.accepted (omega arith) in
    let there : r.place < length h.accepted = omega arith in
    subst (HasSlot slots) place (f.slots_are.kept r.place there (not_posted s h r.place f.sound (omega arith)))

module _ (slots slots' : Slab Slot) (key : ℕ) (accepted : List Item) (posted : List Reply) (r : Reply) (were : AreSlots slots accepted posted) (slot : Slot) (at : get slots key ≡ Some slot) (place : slot.place ≡ r.place) (u : Updates slots slots' key None) (cap : slots'.capacity ≡ slots.capacity) (len : slab_len slots' + 1 ≡ slab_len slots) where
  kept_on : (p : ℕ) → p < length accepted → number (is_of_place p) (posted ++ r ∷ []) ≡ 0 → HasSlot slots' p
  kept_on p low none =
      let a = number-append (is_of_place p) posted (r ∷ []) in
      let apart : r.place ≢ p = λ e. (let t : (r.place == p) ≡ true = grind (arith, nat_tests) in let b : number (is_of_place p) (r ∷ []) ≡ 1 = rw t refl in omega (arith, a, b, none)) in
      let old = were.kept p low (omega arith) in
      let other : old.0 ≢ key = λ e. (let z : Some old.1 ≡ Some slot = sym old.3 ∙ ap (get slots) e ∙ at in let same : old.1 ≡ slot = cc in apart (sym place ∙ ap (λ (x : Slot). x.place) (sym same) ∙ old.4)) in
      (old.0, old.1, omega (arith, cap, old.2), u.others old.0 other ∙ old.3, old.4)

  -- another slot has another place
  waits_on : (k : ℕ) (z : Slot) → k ≢ key → get slots k ≡ Some z → number (is_of_place z.place) (posted ++ r ∷ []) ≡ 0
  waits_on k z d h =
      let old = were.waits k z h in
      let a = number-append (is_of_place z.place) posted (r ∷ []) in
      let other : r.place ≢ z.place = λ e. d (were.apart k key z slot h at (sym e ∙ sym place)) in
      let t : (r.place == z.place) ≡ false = ne_eqb r.place z.place other in
      let b : number (is_of_place z.place) (r ∷ []) ≡ 0 = rw t refl in
      omega arith

  pub slots_fewer : AreSlots slots' accepted (posted ++ r ∷ [])
  slots_fewer =
      let a = were.reserved in
      let b = were.total in
      let c = were.few in
      let l = length-append posted (r ∷ []) in
      record {
        reserved = omega arith;
        total = omega arith;
        few = omega arith;
        items = λ k z h. elim (same_place k key) [
          | inl e ↦ (let q : None ≡ Some z = sym u.changed ∙ ap (get slots') (sym e) ∙ h in cc)
          | inr d ↦ were.items k z (sym (u.others k d) ∙ h)
        ];
        kept = kept_on;
        waits = λ k z h. elim (same_place k key) [
          | inl e ↦ (let q : None ≡ Some z = sym u.changed ∙ ap (get slots') (sym e) ∙ h in cc)
          | inr d ↦ waits_on k z d (sym (u.others k d) ∙ h)
        ];
        apart = λ k j y z h i e. elim (same_place k key) [
          | inl q ↦ (let w : None ≡ Some y = sym u.changed ∙ ap (get slots') (sym q) ∙ h in cc)
          | inr d ↦ elim (same_place j key) [
            | inl q ↦ (let w : None ≡ Some z = sym u.changed ∙ ap (get slots') (sym q) ∙ i in cc)
            | inr o ↦ were.apart k j y z (sym (u.others k d) ∙ h) (sym (u.others j o) ∙ i) e
          ]
        ];
      }

pub goes_out : (h : HalfState) (kept held' posted' : List Reply) (at : Lent) (lent : Option Reply) (r : Reply) → IsLent h.held kept (Some at) lent → lent ≡ Some r → held' ≡ kept → posted' ≡ h.posted ++ option_to_list lent → GoesOut h (record h { held = held'; posted = posted' }) r.host r
goes_out h kept held' posted' at lent r l own eh ep =
    let (q, before, behind, is, held, left, count, place, none) = l in
    let same : q ≡ r = same_reply q r (sym is ∙ own) in
    let p : posted' ≡ h.posted ++ r ∷ [] = ep ∙ ap (λ (o : Option Reply). h.posted ++ option_to_list o) own in
    let k : held' ≡ before ++ behind = eh ∙ left in
    record {
      before = before;
      behind = behind;
      held = held ∙ ap (λ x. before ++ x ∷ behind) same;
      oldest = subst (λ (x : Reply). filter (is_to x.host) before ≡ []) same none;
      own = refl;
      after = rw (p, k) refl;
    }

pub fields_posted : (s : Setup) (slots slots' : Slab Slot) (came : ℕ) (room key : ℕ) (slot : Slot) (kept : List Reply) (at : Lent) (h : HalfState) (lent lent' : Option Reply) (accepted' : List Item) (held' posted' : List Reply)
    → AreFields s slots came room kept (Some at) h lent → get slots key ≡ Some slot → slot.place ≡ at.place → Updates slots slots' key None → slots'.capacity ≡ slots.capacity → slab_len slots' + 1 ≡ slab_len slots
    → accepted' ≡ h.accepted → held' ≡ kept → posted' ≡ h.posted ++ option_to_list lent → lent' ≡ None
    → AreFields s slots' came room kept None (record h { accepted = accepted'; held = held'; posted = posted' }) lent'
fields_posted s slots slots' came room key slot kept at h lent lent' accepted' held' posted' f here sp u cap len e0 e1 e2 e3 =
    let (r, before, behind, is, held, left, count, place, none) = f.lending in
    let p : posted' ≡ h.posted ++ r ∷ [] = e2 ∙ ap (λ (o : Option Reply). h.posted ++ option_to_list o) is in
    let out = goes_out h kept kept (h.posted ++ r ∷ []) at lent r f.lending is refl (ap (λ (o : Option Reply). h.posted ++ option_to_list o) (sym is)) in
    rw (e0, e1, p, e3) (record {
      slots_are = slots_fewer slots slots' key h.accepted h.posted r f.slots_are slot here (sp ∙ sym place) u cap len;
      count = f.count;
      numbered = f.numbered;
      room_is = f.room_is;
      lending = (refl, refl);
      sound = sound_posted s h r.host r _ f.sound out;
    })
