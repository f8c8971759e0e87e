-- What a dispatcher took its device has.
use Rattle.std.proofs.Common.{◌≡◌, ℕ, zero, suc, ◌+◌, ◌*◌, ◌∙◌, inl, inr, true, false, List, [], ◌∷◌, length, map, nat_lt, Option, Some, None, arith, refl, subst, sym}
use Rattle.std.specs.Prelude.{◌==◌, not, max, slice_get, slice_set}
use Rattle.std.specs.List.{AllByRecursion as All, list_any}
use Rattle.std.proofs.lemmas.Bool.{cases_Bool}
use Rattle.std.proofs.lemmas.Bool.Decides.{nat_tests}
use Rattle.onfi_addr.specs.declared.geometry.Geometry.{Geometry}
use Rattle.onfi_addr.specs.Rows.{IsInRange}
use Rattle.onfi_timing.specs.declared.timing.Timing.{Timing}
use Rattle.onfi_request.specs.declared.want.Want.{Want}
use Rattle.onfi_group.specs.Group.{IsFirst, lun_of, on_block}
use Rattle.onfi_group.proofs.Lists.{All-append, All-has, first_has}
use Rattle.onfi_problem.specs.declared.lun_state.LunState.{LunState}
use Rattle.onfi_problem.specs.declared.lun_state.LunState.TheVariants.{Free, Running}
use Rattle.onfi_problem.specs.Moves.{IsMove, lun_after, next_ran, placed}
use Rattle.onfi_problem.specs.Problem.{Problem}
use Rattle.onfi_steady.specs.declared.waiter.Waiter.{Waiter}
use Rattle.onfi_steady.specs.Waiting.{Books, channel, passed_by, wants_of}
use Rattle.onfi_steady.specs.Next.{move_by}
use Rattle.onfi_steady.specs.Dispatcher.{begun_books, due_wants, states_of}
use Rattle.onfi_steady.proofs.Changing.{all_filter}
use Rattle.onfi_calls.specs.declared.device.PlainGeometry.{PlainGeometry}
use Rattle.onfi_calls.specs.declared.channel.PlainLun.{PlainLun}
use Rattle.onfi_calls.specs.declared.channel.PlainWant.{PlainWant}
use Rattle.onfi_calls.specs.declared.plain_dispatcher.PlainDispatcher.{PlainDispatcher}
use Rattle.onfi_calls.specs.declared.status.Status.TheVariants.{BadKind, BadPlace, Clock, NothingDue}
use Rattle.onfi_calls.specs.Device.{written_geometry}
use Rattle.onfi_calls.specs.Dispatching.{IsPhaseOutside, has_outside, is_idle, is_late, is_on, is_outside, want_refusal}
use Rattle.onfi_calls.specs.Due.{IsOutside, page_of}
use Rattle.onfi_calls.specs.Problem.{has_bad_kind, luns_of, members_of, states_of as states_said, want_of, wants_of as wants_said}
use Rattle.onfi_calls.specs.Serving.{BeginningServes, IsHad, IsLunHad, IsServed, NextServes, RunningServes, TakingServes}
use Rattle.onfi_calls.proofs.InOrders.{both_false}

all_at : {A : Type 0} (P : A → Type 0) (xs : List A) (i : ℕ) (x : A) → All P xs → slice_get xs i ≡ Some x → P x
all_at P [] i x all e = absurd cc
all_at P (y ∷ ys) zero x all e = subst P (let same : y ≡ x = cc in same) all.0
all_at P (y ∷ ys) (suc i) x all e = all_at P ys i x all.1 e

all_set : {A : Type 0} (P : A → Type 0) (xs : List A) (i : ℕ) (x : A) → All P xs → P x → All P (slice_set xs i x)
all_set P [] i x all h = tt
all_set P (y ∷ ys) zero x all h = (h, all.1)
all_set P (y ∷ ys) (suc i) x all h = (all.0, all_set P ys i x all.1 h)

-- Taking

on_had : (g : PlainGeometry) (bits : ℕ) (w : PlainWant) → is_on g w ≡ true → IsHad g (want_of bits w)
on_had g bits w on = (grind (arith, nat_tests), grind (arith, nat_tests), grind (arith, nat_tests))

taken_had : (d : PlainDispatcher) (w : PlainWant) → want_refusal d w ≡ None → IsHad d.device.geometry (want_of d.device.plane_bits w)
taken_had d w none = elim (cases_Bool (has_bad_kind w)) [
  | inl k ↦ (let q : want_refusal d w ≡ Some BadKind = rw k refl in absurd cc)
  | inr k ↦ elim (cases_Bool (is_on d.device.geometry w)) [
    | inl on ↦ on_had d.device.geometry d.device.plane_bits w on
    | inr off ↦ (let q : want_refusal d w ≡ Some BadPlace = rw (k, off) refl in absurd cc)
  ]
]

pub taking_serves : TakingServes
taking_serves d books luns w none served =
    let had = taken_had d w none in
    record {
      once = record { waiting = All-append (λ v. IsHad d.device.geometry v.want) books.waiting _ served.waiting (had, tt); running = served.running };
      again = record { waiting = (had, served.waiting); running = served.running };
    }

-- Beginning

members_had : (g : PlainGeometry) (bits : ℕ) (ws : List PlainWant) → list_any (λ w. not (is_on g w)) ws ≡ false → All (IsHad g) (wants_said bits ws)
members_had g bits [] none = tt
members_had g bits (w ∷ ws) none =
    let both = both_false (not (is_on g w)) (list_any (λ w. not (is_on g w)) ws) none in
    elim (cases_Bool (is_on g w)) [
      | inl on ↦ (on_had g bits w on, members_had g bits ws both.1)
      | inr off ↦ (let q : true ≡ false = rw off at both.0 in absurd cc)
    ]

luns_had : (g : PlainGeometry) (bits : ℕ) (luns : List PlainLun) → list_any (has_outside g) luns ≡ false → All (IsLunHad g) (states_said bits luns)
luns_had g bits [] none = tt
luns_had g bits (lun ∷ luns) none =
    let both = both_false (has_outside g lun) (list_any (has_outside g) luns) none in
    elim (cases_Bool (lun.members == 0)) [
      | inl k ↦ (rw k tt, luns_had g bits luns both.1)
      | inr k ↦ (rw k (members_had g bits (members_of lun) both.0), luns_had g bits luns both.1)
    ]

pub beginning_serves : BeginningServes
beginning_serves channel geometry d begun = record {
  waiting = tt;
  running = subst (λ (g : PlainGeometry). All (IsLunHad g) (states_of d.dispatcher)) (sym begun.of.geometry_is)
      (subst (All (IsLunHad geometry)) (sym (begun.of.states ∙ begun.said.states)) (luns_had geometry channel.rules.plane_bits (luns_of channel) begun.of.there));
}

-- Next

in_range : (g : PlainGeometry) (geometry : Geometry) (w : Want) → g ≡ written_geometry geometry → IsHad g w → IsInRange geometry (page_of w)
in_range g geometry w same had =
    let here = subst (λ z. IsHad z w) same had in
    record { lun_there = here.0; block_there = here.1; page_there = here.2 }

first_had : (g : PlainGeometry) (books : Books) (w : Want) → All (λ v. IsHad g v.want) books.waiting → IsFirst (wants_of books.waiting) w → IsHad g w
first_had g books w all first = All-has (IsHad g) (wants_of books.waiting) w (named books.waiting all) (first_has (on_block w) (wants_of books.waiting) w first)
  where
    named : (ws : List Waiter) → All (λ v. IsHad g v.want) ws → All (IsHad g) (wants_of ws)
    named [] h = tt
    named (v ∷ vs) h = (h.0, named vs h.1)

group_had : (g : PlainGeometry) (books : Books) (group : List Want) → All (λ v. IsHad g v.want) books.waiting → All (IsFirst (wants_of books.waiting)) group → All (IsHad g) group
group_had g books [] all first = tt
group_had g books (m ∷ ms) all first = (first_had g books m all first.0, group_had g books ms all first.1)

not_outside : (g : PlainGeometry) (geometry : Geometry) (group : List Want) (number : ℕ) → g ≡ written_geometry geometry → All (IsHad g) group → IsOutside geometry group number → ⊥
not_outside g geometry group number same had out = out.not_there (in_range g geometry out.member same (all_at (IsHad g) group _ out.member had out.is))

phase_inside : (timing : Timing) (g : PlainGeometry) (geometry : Geometry) (books : Books) (from : ℕ) (luns : List LunState) (lun : ℕ) (members : List Want) → g ≡ written_geometry geometry → IsServed g books luns
    → IsMove (channel timing from luns books) (move_by lun members) → IsPhaseOutside geometry luns lun members → ⊥
phase_inside timing g geometry books from luns lun [] same served move (group, next, ready, there, out) =
    not_outside g geometry group next same (all_at (IsLunHad g) luns lun (Running group next ready) served.running there) out
phase_inside timing g geometry books from luns lun (m ∷ ms) same served (since, free, startable) out =
    not_outside g geometry (m ∷ ms) 0 same (group_had g books (m ∷ ms) served.waiting startable.first) out

pub next_serves : NextServes
next_serves timing books d now status served (is_idle idle none e) q = let z : NothingDue ≡ BadPlace = sym e ∙ q in cc
next_serves timing books d now status served (is_late next is late e) q = let z : Clock ≡ BadPlace = sym e ∙ q in cc
next_serves timing books d now status served (is_outside next geometry is same out e) q =
    phase_inside timing d.device.geometry geometry books (max d.dispatcher.bus_free now) (states_of d.dispatcher) next.lun next.members.items same served is.move out

-- Running

after_had : (g : PlainGeometry) (timing : Timing) (group : List Want) (n ended : ℕ) → All (IsHad g) group → IsLunHad g (lun_after timing group n ended)
after_had g timing group n ended had = elim (cases_Bool (nat_lt (n + 1) (2 * length group))) [ inl k ↦ rw k had | inr k ↦ rw k tt ]

next_had : (g : PlainGeometry) (p : Problem) (lun started : ℕ) (state : Option LunState) → slice_get p.luns lun ≡ state → All (IsLunHad g) p.luns → All (IsLunHad g) (next_ran p lun state started).luns
next_had g p lun started None e all = all
next_had g p lun started (Some (Free since)) e all = all
next_had g p lun started (Some (Running group next ready)) e all =
    all_set (IsLunHad g) p.luns lun _ all (after_had g p.timing group next _ (all_at (IsLunHad g) p.luns lun (Running group next ready) all e))

placed_had : (g : PlainGeometry) (timing : Timing) (books : Books) (from : ℕ) (luns : List LunState) (lun started : ℕ) (members : List Want) → IsServed g books luns
    → IsMove (channel timing from luns books) (move_by lun members) → All (IsLunHad g) (placed (channel timing from luns books) (move_by lun members) started).luns
placed_had g timing books from luns lun started [] served move = next_had g (channel timing from luns books) lun started (slice_get luns lun) refl served.running
placed_had g timing books from luns lun started (m ∷ ms) served (since, free, startable) =
    all_set (IsLunHad g) luns (lun_of (m ∷ ms)) _ served.running (after_had g timing (m ∷ ms) 0 _ (group_had g books (m ∷ ms) served.waiting startable.first))

passed_had : (g : PlainGeometry) (lun last : ℕ) (ws : List Waiter) → All (λ w. IsHad g w.want) ws → All (λ w. IsHad g w.want) (map (passed_by lun last) ws)
passed_had g lun last [] had = tt
passed_had g lun last (w ∷ ws) had = (subst (IsHad g) (sym (same_want lun last w)) had.0, passed_had g lun last ws had.1)
  where
    same_want : (lun last : ℕ) (w : Waiter) → (passed_by lun last w).want ≡ w.want
    same_want lun last w = elim (cases_Bool (w.want.lun == lun)) [
      | inl k ↦ elim (cases_Bool (nat_lt w.want.id last)) [ inl q ↦ rw (k, q) refl | inr q ↦ rw (k, q) refl ]
      | inr k ↦ rw k refl
    ]

books_had : (g : PlainGeometry) (books : Books) (lun : ℕ) (members : List Want) → All (λ w. IsHad g w.want) books.waiting → All (λ w. IsHad g w.want) (begun_books books lun members).waiting
books_had g books lun [] had = had
books_had g books lun (m ∷ ms) had = passed_had g lun _ _ (all_filter (λ w. IsHad g w.want) _ books.waiting had)

pub running_serves : RunningServes
running_serves g timing books old new started ran served = record {
  waiting = books_had g books old.dispatcher.due.lun (due_wants old.dispatcher) served.waiting;
  running = subst (All (IsLunHad g)) (sym ran.states)
      (placed_had g timing books old.dispatcher.bus_free (states_of old.dispatcher) old.dispatcher.due.lun started (due_wants old.dispatcher) served ran.move);
}
