-- What is left stays legal.
use Rattle.std.proofs.Common.{◌≡◌, ℕ, zero, suc, ◌+◌, ◌-◌, ◌≤◌, ◌<◌, inl, inr, List, [], length, Option, Some, None, refl, sym, ap, ◌∙◌, subst, arith}
use Rattle.std.specs.Prelude.{max, min, not, replicate, slice_get, slice_set}
use Rattle.std.specs.List.{AllByRecursion as All}
use Rattle.std.proofs.lemmas.List.{length-replicate}
use Rattle.onfi_timing.specs.declared.timing.Timing.{Timing}
use Rattle.onfi_request.specs.declared.want.Want.{Want}
use Rattle.onfi_group.specs.Group.{is_member}
use Rattle.onfi_group.specs.declared.rules.Rules.{Rules}
use Rattle.onfi_problem.specs.declared.lun_state.LunState.{LunState}
use Rattle.onfi_problem.specs.declared.lun_state.LunState.TheVariants.{Free, Running}
use Rattle.onfi_problem.specs.Moves.{Move, Next, Start, IsMove, next_ran, placed}
use Rattle.onfi_problem.specs.Problem.{Problem}
use Rattle.onfi_problem.proofs.Kept.{kept}
use Rattle.onfi_problem.proofs.Perm.{All-both}
use Rattle.onfi_problem.proofs.Places.{get_set_other, get_set_same, length_set, same_place}
use Rattle.onfi_problem.proofs.Wants.{filter_shorter}
use Rattle.onfi_schedule.specs.declared.phase.Phase.{Phase}
use Rattle.onfi_schedule.specs.Schedule.{Schedule, Legal, phases, rest_phases}
use Rattle.onfi_schedule.proofs.Following.{first_move_law}
use Rattle.onfi_flight.specs.Flight.{Flight, IsFlight, idle, left_behind, luns_ready_by, move_of, wait_lag, waited}
use Rattle.onfi_flight.specs.Laws.{DoneStays, IdleStays, LateStays, ReadyStays, WaitStays}
use Rattle.onfi_flight.specs.Times.{all_starts, free_at, later}
use Rattle.onfi_flight.proofs.Lags.{group_head, lag_enough, rest_head}
use Rattle.onfi_flight.proofs.Late.{late_legal}
use Rattle.onfi_flight.proofs.Lists.{set_self}
use Rattle.onfi_flight.proofs.Shifted.{later_legal, phases_start, ready_legal}

-- After a phase

few_placed : (p : Problem) (move : Move) (t : ℕ) → length p.wants ≤ 8 → IsMove p move → length (placed p move t).wants ≤ 8
few_placed p (Next lun) t few (g, n, r, at) = subst (λ (q : Problem). length q.wants ≤ 8) (sym (ap (λ o. next_ran p lun o t) at)) few
few_placed p (Start g) t few is = let shorter = filter_shorter (λ w. not (is_member g w)) p.wants in omega (arith, shorter, few)

pub done_stays : DoneStays
done_stays f due flight is =
    let first = first_move_law f.now f.left (move_of due) due.start (left_behind f.left due) flight.problem flight.legal (is.next flight.legal) in
    record { problem = first.problem; few = few_placed f.now (move_of due) due.start flight.few is.is_move; legal = first.legal }

pub late_stays : LateStays
late_stays f due started flight is late =
    let first = first_move_law f.now f.left (move_of due) due.start (left_behind f.left due) flight.problem flight.legal (is.next flight.legal) in
    record {
      problem = kept f.now (move_of due) started flight.problem is.is_move;
      few = few_placed f.now (move_of due) started flight.few is.is_move;
      legal = late_legal f.now (move_of due) due.start started (left_behind f.left due) is.is_move late first.legal;
    }

-- After a wait

waited_legal : (moment : ℕ) (f : Flight) → Legal f.now f.left → Legal (free_at f.now (max f.now.bus_free moment)) (later (wait_lag moment f) f.left)
waited_legal moment f legal =
    let by = wait_lag moment f in
    let low = phases_start f.now f.left (moment - by) legal
    (λ l u us at. lag_enough moment (all_starts f.left) u (rest_head f.left l u us at))
    (λ i u us at. lag_enough moment (all_starts f.left) u (group_head f.left i u us at)) in
    later_legal f.now f.left by (max f.now.bus_free moment) legal
    (All-both (λ (x : Phase). f.now.bus_free ≤ x.start) (λ (x : Phase). moment - by ≤ x.start) (λ (x : Phase). max f.now.bus_free moment ≤ x.start + by) (λ x a b. omega (arith, a, b)) (phases f.now f.left) legal.from_bus_free low)

pub wait_stays : WaitStays
wait_stays f moment flight = record {
  problem = record { wants = flight.problem.wants; in_range = flight.problem.in_range; ids = flight.problem.ids; running = flight.problem.running };
  few = flight.few;
  legal = waited_legal moment f flight.legal;
}

-- the fields of a flight after it
pub wait_is : (v f : Flight) (moment free by : ℕ) (left : Schedule) → v ≡ f → free ≡ max v.now.bus_free moment → by ≡ wait_lag moment v → left ≡ later by v.left
    → (let now : Flight = record { now = record { timing = v.now.timing; rules = v.now.rules; bus_free = free; luns = v.now.luns; wants = v.now.wants }; left = left } in now) ≡ waited moment f
wait_is v f moment free by left same ef eb el = rw (el, eb, ef) (ap (waited moment) same)

-- Where a LUN is ready sooner

same_running : (group g : List Want) (next n ready r : ℕ) → Some (Running group next ready) ≡ Some (Running g n r) → (group ≡ g) × (next ≡ n)
same_running group g next n ready r h = (cc, cc)

abbrev with_luns : Flight → List LunState → Flight
with_luns f luns = record f { now = record f.now { luns = luns } }

-- each group that runs ran
ran : (luns : List LunState) (lun : ℕ) (group : List Want) (next ready moment : ℕ) → slice_get luns lun ≡ Some (Running group next ready)
    → (l : ℕ) (g : List Want) (n r : ℕ) → slice_get (slice_set luns lun (Running group next moment)) l ≡ Some (Running g n r) → (old : ℕ) × (slice_get luns l ≡ Some (Running g n old))
ran luns lun group next ready moment there l g n r at =
    elim (same_place l lun) [
      | inl e ↦ (
          let here = get_set_same luns lun (Running group next ready) (Running group next moment) there in
          let at' : slice_get (slice_set luns lun (Running group next moment)) lun ≡ Some (Running g n r) = subst (λ i. slice_get (slice_set luns lun (Running group next moment)) i ≡ Some (Running g n r)) e at in
          let q = same_running group g next n moment r (sym here ∙ at') in
          let old : slice_get luns l ≡ Some (Running group next ready) = ap (slice_get luns) e ∙ there in
          (ready, old ∙ ap (λ xs. Some (Running xs next ready)) q.0 ∙ ap (λ m. Some (Running g m ready)) q.1))
      | inr d ↦ (r, sym (get_set_other luns lun l (Running group next moment) d) ∙ at)
    ]

ready_case : (f : Flight) (lun moment : ℕ) (o : Option LunState) → IsFlight f → slice_get f.now.luns lun ≡ o → IsFlight (with_luns f (luns_ready_by moment lun o f.now.luns))
ready_case f lun moment None flight at = flight
ready_case f lun moment (Some (Free since)) flight at = subst (λ luns. IsFlight (with_luns f luns)) (sym (set_self f.now.luns lun (Free since) at)) flight
ready_case f lun moment (Some (Running group next ready)) flight at =
    let size = length_set f.now.luns lun (Running group next (min ready moment)) in record {
      problem = record {
        wants = flight.problem.wants;
        in_range = subst (λ n. All (λ (w : Want). w.lun < n) f.now.wants) (sym size) flight.problem.in_range;
        ids = flight.problem.ids;
        running = λ l g n r there. let (old, was) = ran f.now.luns lun group next ready (min ready moment) at l g n r there in flight.problem.running l g n old was;
      };
      few = flight.few;
      legal = (ready_legal f.now f.left lun group next ready (min ready moment) at (omega arith) flight.legal).0;
    }

pub ready_stays : ReadyStays
ready_stays f lun moment flight = ready_case f lun moment (slice_get f.now.luns lun) flight refl

-- An idle channel

-- each is that one
same_element : {A : Type 0} (n : ℕ) (x : A) (i : ℕ) (y : A) → slice_get (replicate n x) i ≡ Some y → x ≡ y
same_element zero x i y h = cc
same_element (suc n) x zero y h = cc
same_element (suc n) x (suc i) y h = same_element n x i y h

no_phase : (timing : Timing) (from n : ℕ) → rest_phases timing from (replicate n (Free 0)) (replicate n []) ≡ []
no_phase timing from zero = refl
no_phase timing from (suc n) = no_phase timing (from + 1) n

none_running : (n lun : ℕ) (group : List Want) (next ready : ℕ) → slice_get (replicate n (Free 0)) lun ≡ Some (Running group next ready) → ⊥
none_running n lun group next ready h = let e = same_element n (Free 0) lun _ h in cc

idle_legal : (timing : Timing) (rules : Rules) (bus_free n : ℕ) → Legal (idle timing rules bus_free n).now (idle timing rules bus_free n).left
idle_legal timing rules bus_free n = record {
  shape = record {
    luns = length-replicate n [] ∙ sym (length-replicate n (Free 0));
    rest = λ lun group next ready starts h k. absurd (none_running n lun group next ready h);
    no_rest = λ lun since starts h k. sym (same_element n [] lun starts k);
    starts = tt;
    wants_only = tt;
    once = λ id. refl;
  };
  from_bus_free = let e = no_phase timing 0 n in rw e tt;
  no_overlap = let e = no_phase timing 0 n in rw e tt;
  rest_waits = λ lun group next ready starts h k. absurd (none_running n lun group next ready h);
  waits = tt;
  running_first = tt;
  turns = tt;
  from_since = tt;
  block_order = tt;
  group = tt;
}

pub idle_stays : IdleStays
idle_stays timing rules bus_free n = record {
  problem = record { wants = tt; in_range = tt; ids = tt; running = λ lun group next ready at. absurd (none_running n lun group next ready at) };
  few = omega arith;
  legal = idle_legal timing rules bus_free n;
}
