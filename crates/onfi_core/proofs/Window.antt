-- The slots of unanswered items.
use Rattle.std.proofs.Common.{◌≡◌, ◌≢◌, ℕ, ◌+◌, ◌-◌, ◌^◌, ◌<◌, ◌≤◌, ◌⊎◌, inl, inr, true, false, List, [], ◌∷◌, ◌++◌, length, Option, Some, None, refl, sym, ap, ◌∙◌, subst, length-append, arith, zero, suc, Bool}
use Rattle.std.specs.Prelude.{slice_get, count_by, is_some, slice_index_or, cond, ◌==◌}
use Rattle.std.specs.List.{AllByRecursion as All, filter}
use Rattle.std.proofs.lemmas.Bool.{cases_lt}
use Rattle.onfi_request.specs.declared.request.Item.{Item}
use Rattle.onfi_request.specs.declared.reply.Reply.{Reply}
use Rattle.onfi_group.specs.Words.{number}
use Rattle.onfi_problem.proofs.Perm.{All-append}
use Rattle.onfi_problem.proofs.Places.{same_place, within_get}
use Rattle.onfi_problem.specs.Problem.{has_id}
use Rattle.onfi_die.proofs.Lists.{get_more}
use Rattle.slab.specs.Slab.{Slab, get, slab_len, Updates}
use Rattle.onfi_core.specs.declared.setup.Setup.{Setup}
use Rattle.onfi_core.specs.declared.slot.Slot.{Slot}
use Rattle.onfi_core.specs.declared.lent.Lent.{Lent}
use Rattle.onfi_core.specs.State.{Planning, HalfState, Way, is_from, want_of, wants_from, way_of, with_way}
use Rattle.onfi_core.proofs.Plan.{sound_planned}
use Rattle.onfi_problem.specs.Problem.{Problem}
use Rattle.onfi_request.specs.declared.want.Want.{Want}
use Rattle.onfi_steady.specs.Waiting.{Books}
use Rattle.onfi_core.specs.Steps.{planned_by, planned_with, next_problem, Plans, accept_refusal, books_with, if_stopped, taken_next, unanswered}
use Rattle.onfi_core.specs.Ways.{way_with}
use Rattle.onfi_core.proofs.Few.{waiting_few}
use Rattle.onfi_core.specs.Kept.{IsSound, is_of_place, first_half}
use Rattle.onfi_core.proofs.Opening.{opened_sound}
use Rattle.onfi_core.specs.View.{IsNext, AreSlots, AreNumbered, AreFields}
use Rattle.onfi_core.proofs.Accept.{sound_accepted}
use Rattle.onfi_core.proofs.Lists.{get_at_length}
use Rattle.onfi_core.proofs.Next.{was_accepted}
use Rattle.onfi_core.proofs.Reach.{none_second, not_where, below}
use Rattle.onfi_core.proofs.Halves.{fields_but}
use Rattle.onfi_core.proofs.Hosted.{from_each}

front_kept : (b : Bool) (x : Item) (xs : List Item) → length (cond b (x ∷ xs) xs) ≡ cond b 1 0 + length xs
front_kept true x xs = omega arith
front_kept false x xs = omega arith

one_of_four : (n : ℕ) → n < 4 → cond (n == 0) 1 0 + cond (n == 1) 1 0 + cond (n == 2) 1 0 + cond (n == 3) 1 0 ≡ 1
one_of_four zero low = refl
one_of_four (suc zero) low = refl
one_of_four (suc (suc zero)) low = refl
one_of_four (suc (suc (suc zero))) low = refl
one_of_four (suc (suc (suc (suc n)))) low = absurd (omega arith)

-- items of four hosts
pub by_hosts : (xs : List Item) → All (λ (x : Item). x.host < 4) xs → length xs ≡ length (filter (is_from 0) xs) + length (filter (is_from 1) xs) + length (filter (is_from 2) xs) + length (filter (is_from 3) xs)
by_hosts [] h = refl
by_hosts (x ∷ xs) h =
    let share : (host : ℕ) → length (filter (is_from host) (x ∷ xs)) ≡ cond (x.host == host) 1 0 + length (filter (is_from host) xs) = λ host. front_kept (x.host == host) x (filter (is_from host) xs) in
    omega (arith, share 0, share 1, share 2, share 3, one_of_four x.host h.0, by_hosts xs h.1)

-- so a place fits into 64 bits
pub places_fit : (xs : List Item) → AreNumbered xs → length xs ≤ 2 ^ 34
places_fit xs n =
    let e = by_hosts xs n.hosts in
    let a = n.few 0 in
    let b = n.few 1 in
    let c = n.few 2 in
    let d = n.few 3 in
    omega arith

-- where an item is not refused the window has room
pub has_room : (h : HalfState) → accept_refusal h ≡ None → length h.accepted - length h.posted < 64
has_room h none = below 64 (unanswered h) (not_where _ _ (none_second (if_stopped h.stopped) _ none))

numbered_more : (s : Setup) (h : HalfState) (x : Item) → AreNumbered h.accepted → IsNext s h x → AreNumbered (h.accepted ++ x ∷ [])
numbered_more s h x n next =
    let few = s.few_hosts in
    let known = next.host in
    record {
      hosts = All-append (λ (y : Item). y.host < 4) h.accepted (x ∷ []) n.hosts (omega arith, tt);
      few = from_each (λ host ys. length ys ≤ 2 ^ 32) h.accepted x n.few (let c = next.serial in let low = next.fits in omega (arith, c, low, length-append (filter (is_from x.host) h.accepted) (x ∷ [])));
    }

module _ (slots slots' : Slab Slot) (n key : ℕ) (accepted : List Item) (posted : List Reply) (x : Item) (were : AreSlots slots accepted posted) (count : n ≡ length accepted) (u : Updates slots slots' key (Some (record { place = n; item = x }))) (cap : slots'.capacity ≡ slots.capacity) (len : slab_len slots' ≡ slab_len slots + 1) (within : key < slots'.capacity) (vacant : get slots key ≡ None) (fresh : number (is_of_place n) posted ≡ 0) where
  items_more : (k : ℕ) (slot : Slot) → get slots' k ≡ Some slot → slice_get (accepted ++ x ∷ []) slot.place ≡ Some slot.item
  items_more k slot at =
      elim (same_place k key) [
        | inl e ↦ (
            let q : Some (let z : Slot = record { place = n; item = x } in z) ≡ Some slot = sym u.changed ∙ ap (get slots') (sym e) ∙ at in
            let same : (let z : Slot = record { place = n; item = x } in z) ≡ slot = cc in
            let P : Slot → Type 0 = λ z. slice_get (accepted ++ x ∷ []) z.place ≡ Some z.item in
            subst P same (ap (slice_get (accepted ++ x ∷ [])) count ∙ get_at_length accepted x []))
        | inr d ↦ get_more accepted (x ∷ []) slot.place slot.item (were.items k slot (sym (u.others k d) ∙ at))
      ]

  kept_more : (place : ℕ) → place < length (accepted ++ x ∷ []) → number (is_of_place place) posted ≡ 0 → (k : ℕ) × (slot : Slot) × (k < slots'.capacity) × (get slots' k ≡ Some slot) × (slot.place ≡ place)
  kept_more place low none =
      let l = length-append accepted (x ∷ []) in
      elim (same_place place n) [
        | inl e ↦ (key, record { place = n; item = x }, within, u.changed, sym e)
        | inr d ↦ (
            let old = were.kept place (omega arith) none in
            let apart : old.0 ≢ key = λ e. (let z = ap (get slots) (sym e) ∙ old.3 in let z' : None ≡ Some old.1 = sym vacant ∙ z in cc) in
            (old.0, old.1, omega (arith, cap, old.2), u.others old.0 apart ∙ old.3, old.4))
      ]

  -- the new slot, or one of before, whose place is lower
  from_slot : (k : ℕ) (slot : Slot) → get slots' k ≡ Some slot → ((k ≡ key) × (slot.place ≡ n)) ⊎ ((get slots k ≡ Some slot) × (slot.place < n))
  from_slot k slot at =
      elim (same_place k key) [
        | inl e ↦ (
            let q : Some (let z : Slot = record { place = n; item = x } in z) ≡ Some slot = sym u.changed ∙ ap (get slots') (sym e) ∙ at in
            let same : (let z : Slot = record { place = n; item = x } in z) ≡ slot = cc in
            inl (e, ap (λ (z : Slot). z.place) (sym same)))
        | inr d ↦ (
            let old = sym (u.others k d) ∙ at in
            let low = within_get accepted slot.place slot.item (were.items k slot old) in
            inr (old, omega arith))
      ]

  waits_more : (k : ℕ) (slot : Slot) → get slots' k ≡ Some slot → number (is_of_place slot.place) posted ≡ 0
  waits_more k slot at = elim (from_slot k slot at) [
    | inl new ↦ ap (λ i. number (is_of_place i) posted) new.1 ∙ fresh
    | inr old ↦ were.waits k slot old.0
  ]

  apart_more : (k j : ℕ) (slot another : Slot) → get slots' k ≡ Some slot → get slots' j ≡ Some another → slot.place ≡ another.place → k ≡ j
  apart_more k j slot another a b e = elim (from_slot k slot a) [
    | inl new ↦ elim (from_slot j another b) [ inl other ↦ new.0 ∙ sym other.0 | inr other ↦ absurd (let low = other.1 in let p = new.1 in omega arith) ]
    | inr old ↦ elim (from_slot j another b) [ inl other ↦ absurd (let low = old.1 in let p = other.1 in omega arith) | inr other ↦ were.apart k j slot another old.0 other.0 e ]
  ]

  pub slots_more : slab_len slots < 64 → AreSlots slots' (accepted ++ x ∷ []) posted
  slots_more room =
      let a = were.reserved in
      let b = were.total in
      let l = length-append accepted (x ∷ []) in
      record {
        reserved = omega arith;
        total = omega arith;
        few = omega arith;
        items = items_more;
        kept = kept_more;
        waits = waits_more;
        apart = apart_more;
      }

-- the place that comes next has no reply yet
fresh_place : (s : Setup) (h : HalfState) → IsSound s h → number (is_of_place (length h.accepted)) h.posted ≡ 0
fresh_place s h sound =
    let o = sound.once (length h.accepted) in
    elim (cases_lt (number (has_id (length h.accepted)) (wants_from s.geometry 0 h.accepted)) 1) [
      | inl lt ↦ omega arith
      | inr ge ↦ absurd (let k = was_accepted s.geometry 0 (length h.accepted) h.accepted ge in omega arith)
    ]

-- as many are taken, said of the books before or after
pub planned_same : (books : Option Books) (w : Want) (planned : ℕ) → planned_with (books_with books w) planned ≡ planned_with books planned
planned_same None w planned = refl
planned_same (Some books) w planned = refl

-- by the next phase fewer than 64 wait where the window has room
pub few_wait : (s : Setup) (h : HalfState) → IsSound s h → accept_refusal h ≡ None → length h.now.wants < 64
few_wait s h sound open' = omega (arith, waiting_few s h sound, has_room h open')

-- an item is taken in
pub fields_accepted : (s : Setup) (slots slots' : Slab Slot) (came : ℕ) (key room : ℕ) (kept : List Reply) (at : Option Lent) (h : HalfState) (lent lent' : Option Reply) (x : Item) (accepted' : List Item) (held' posted' : List Reply) (way' : Way) (planned' : ℕ)
    → AreFields s slots came room kept at h lent → accept_refusal h ≡ None → IsNext s h x
    → Updates slots slots' key (Some (record { place = came; item = x })) → slots'.capacity ≡ slots.capacity → slab_len slots' ≡ slab_len slots + 1 → key < slots'.capacity → get slots key ≡ None
    → accepted' ≡ h.accepted ++ x ∷ [] → held' ≡ h.held → posted' ≡ h.posted → lent' ≡ lent
    → way' ≡ way_with (want_of s.geometry (length h.accepted) x) (way_of h) → planned' ≡ planned_with way'.books h.planned
    → AreFields s slots' (came + 1) room kept at (record (with_way h way') { accepted = accepted'; held = held'; posted = posted'; planned = planned' }) lent'
fields_accepted s slots slots' came key room kept at h lent lent' x accepted' held' posted' way' planned' f none next u cap len within vacant e0 e1 e2 e3 ew ep =
    let low = has_room h none in
    let t = f.slots_are.total in
    let c = f.count in
    let l = length-append h.accepted (x ∷ []) in
    let counted = ep ∙ ap (λ (w : Way). planned_with w.books h.planned) ew ∙ planned_same h.books (want_of s.geometry (length h.accepted) x) h.planned in
    rw (e0, e1, e2, e3, counted, ew) (record {
      slots_are = slots_more slots slots' came key h.accepted h.posted x f.slots_are c u cap len within vacant (ap (λ i. number (is_of_place i) h.posted) c ∙ fresh_place s h f.sound) (omega arith);
      count = omega arith;
      numbered = numbered_more s h x f.numbered next;
      room_is = f.room_is;
      lending = f.lending;
      sound = sound_accepted s h f.sound x next.in_range;
    })

-- the fields at the opening
pub fields_opened : (s : Setup) (slots : Slab Slot) (room : ℕ) (kept : List Reply) (lent : Option Reply) (h : HalfState) → slots.slots ≡ [] → 64 ≤ slots.capacity → 64 ≤ room → kept ≡ [] → lent ≡ None → h ≡ first_half s → AreFields s slots 0 room kept None h lent
fields_opened s slots room kept lent h empty reserved has none unlent is =
    rw (is, none, unlent) (record {
      slots_are = record {
        reserved = reserved;
        total = ap (λ xs. count_by is_some xs + 0) empty;
        few = let e = ap (count_by is_some) empty in omega (arith, e);
        items = λ key slot at. (let e = ap (λ xs. slice_index_or xs key None) empty in let z : None ≡ Some slot = sym e ∙ at in cc);
        kept = λ place low q. absurd (omega (arith, low));
        waits = λ key slot at. (let e = ap (λ xs. slice_index_or xs key None) empty in let z : None ≡ Some slot = sym e ∙ at in cc);
        apart = λ key other slot another at. (let e = ap (λ xs. slice_index_or xs key None) empty in let z : None ≡ Some slot = sym e ∙ at in cc);
      };
      count = refl;
      numbered = record { hosts = tt; few = λ host. omega arith };
      room_is = has;
      lending = (refl, refl);
      sound = opened_sound s;
    })

-- a plan takes the old one's place
pub fields_planned : (s : Setup) (slots : Slab Slot) (came : ℕ) (room : ℕ) (kept : List Reply) (at : Option Lent) (h : HalfState) (lent : Option Reply) (plan : Planning) (way' : Way) (planned : ℕ)
    → AreFields s slots came room kept at h lent → h.books ≡ None → Plans s h plan → way' ≡ record { now = next_problem s h; left = plan.schedule; books = None } → planned ≡ h.planned + length (taken_next s h)
    → AreFields s slots came room kept at (record (with_way h way') { planned = planned; outdated = false; last = Some plan }) lent
fields_planned s slots came room kept at h lent plan way' planned f none plans ef ep =
    let built : (let z : HalfState = record h { planned = h.planned + length (taken_next s h); now = next_problem s h; left = plan.schedule; outdated = false; last = Some plan } in z) ≡ planned_by s h plan =
    ap (λ (p : Problem). let z : HalfState = record h { planned = h.planned + length (taken_next s h); now = p; left = plan.schedule; outdated = false; last = Some plan } in z) (sym plans.problem) in
    let base = fields_but s slots came room room kept kept at at h (planned_by s h plan) lent lent f refl refl refl f.lending (sound_planned s h f.sound none plan plans) in
    let is = ef ∙ ap (λ b. let w : Way = record { now = next_problem s h; left = plan.schedule; books = b } in w) (sym none) in
    rw (is, ep) (subst (λ z. AreFields s slots came room kept at z lent) (sym built) base)
