-- The due phase of what is said, once it ran, where all is in the earlier half of the clock.
use Rattle.std.proofs.Common.{◌≡◌, ℕ, ◌+◌, ◌-◌, ◌*◌, ◌^◌, ◌<◌, ◌≤◌, List, [], ◌∷◌, ◌++◌, length, take, drop, Option, None, Some, inl, inr, refl, sym, ap, ◌∙◌, subst, arith}
use Rattle.std.specs.Prelude.{◌==◌, not, nat_lt, slice_get, slice_set}
use Rattle.std.specs.List.{AllByRecursion as Each, list_any}
use Rattle.std.proofs.Math.Seq.{take-append_seam}
use Rattle.std.proofs.lemmas.Bool.{cases_Bool}
use Rattle.std.proofs.lemmas.List.{length-take}
use Rattle.onfi_timing.specs.declared.timing.Timing.{Timing}
use Rattle.onfi_timing.specs.Phases.{phase_length}
use Rattle.onfi_request.specs.declared.want.Want.{Want}
use Rattle.onfi_group.specs.declared.rules.Rules.{Rules}
use Rattle.onfi_group.specs.Group.{group_spans}
use Rattle.onfi_group.proofs.PhaseLengths.{phase_short}
use Rattle.onfi_problem.specs.Checks.{time_of}
use Rattle.onfi_problem.specs.declared.lun_state.LunState.{LunState}
use Rattle.onfi_problem.specs.Left.{InLimits}
use Rattle.onfi_problem.specs.Moves.{lun_after}
use Rattle.onfi_problem.specs.Problem.{Problem, IsProblem, IsSmall}
use Rattle.onfi_problem.proofs.Kept.{kept, kept_small}
use Rattle.onfi_problem.proofs.Wants.{filter_shorter}
use Rattle.onfi_flight.specs.declared.due.Due.{Due}
use Rattle.onfi_flight.specs.Flight.{Flight, IsDue, after_late, left_behind, move_of, wants_behind}
use Rattle.onfi_flight.specs.Times.{later}
use Rattle.onfi_flight.proofs.Begins.{due_lun, placed_is}
use Rattle.onfi_flight.proofs.Lists.{All-set}
use Rattle.onfi_calls.specs.declared.channel.PlainChannel.{PlainChannel}
use Rattle.onfi_calls.specs.declared.channel.PlainLun.{PlainLun}
use Rattle.onfi_calls.specs.declared.channel.PlainWant.{PlainWant}
use Rattle.onfi_calls.specs.declared.ran.Step.{Step}
use Rattle.onfi_calls.specs.declared.schedule.PlainSchedule.{PlainSchedule}
use Rattle.onfi_calls.specs.InOrder.{AreEarly, flight_of}
use Rattle.onfi_calls.specs.Ran.{GivesRan, IsRan, Kept, channel_then, gives_ran, lun_in, telling}
use Rattle.onfi_calls.specs.Delay.{IsStep, end_of, plain_behind}
use Rattle.onfi_calls.specs.Problem.{luns_of, wants_of}
use Rattle.onfi_calls.specs.ReadSchedule.{schedule_of}
use Rattle.onfi_calls.specs.PlainSchedule.{written_schedule}
use Rattle.onfi_calls.proofs.Horizons.{horizon_early, wait_short}
use Rattle.onfi_calls.proofs.InOrders.{times_early}
use Rattle.onfi_calls.proofs.RanInPlace.{left_again}
use Rattle.onfi_calls.proofs.Standing.{plain_there, ran_then, set_there}

after_early : (timing : Timing) (group : List Want) (n ended t : ℕ) → ended + 2 ^ 50 ≤ t → time_of (lun_after timing group n ended) < t
after_early timing group n ended t low =
    let wait = wait_short timing group (n + 1) in
    elim (cases_Bool (nat_lt (n + 1) (2 * length group))) [ inl more ↦ rw more (omega (arith, low, wait)) | inr over ↦ rw over (omega (arith, low)) ]

-- it leaves a problem in its limits
pub limits_after : (timing : Timing) (rules : Rules) (bus_free : ℕ) (luns : List PlainLun) (wants : List PlainWant) (schedule : PlainSchedule) (due : Due) (started : ℕ)
    → InLimits (flight_of timing rules bus_free luns wants schedule).now → AreEarly luns → IsDue (flight_of timing rules bus_free luns wants schedule) due → started < 2 ^ 61
    → InLimits (after_late (flight_of timing rules bus_free luns wants schedule) due started).now
limits_after timing rules bus_free luns wants schedule due started limits early is sooner =
    let f : Flight = flight_of timing rules bus_free luns wants schedule in
    let p : Problem = (after_late f due started).now in
    let t = 2 ^ 61 + 2 ^ 52 in
    let small : IsSmall p = kept_small f.now (move_of due) started limits.small is.is_move in
    let problem : IsProblem p = kept f.now (move_of due) started limits.problem is.is_move in
    let short = phase_short timing due.group due.phase in
    let ended = started + phase_length (group_spans timing due.group) (length due.group) due.phase in
    let bus_is : p.bus_free ≡ ended = ap (λ (q : Problem). q.bus_free) (placed_is f due started is) in
    let bus : p.bus_free < t = omega (arith, bus_is, short, sooner) in
    let all : Each (λ x. time_of x < t) (slice_set f.now.luns due.lun (lun_after timing due.group due.phase ended)) =
    All-set (λ x. time_of x < t) f.now.luns due.lun (lun_after timing due.group due.phase ended) (times_early rules.plane_bits t luns (omega arith) early)
    (after_early timing due.group due.phase ended t (omega (arith, short, sooner))) in
    let luns_then : p.luns ≡ slice_set f.now.luns due.lun (lun_after timing due.group due.phase ended) = ap (λ (q : Problem). q.luns) (placed_is f due started is) in
    let times : Each (λ x. time_of x < t) p.luns = subst (Each (λ x. time_of x < t)) (sym luns_then) all in
    let less = horizon_early p t small problem bus times in
    record { small = small; problem = problem; horizon = omega (arith, less) }

-- what is kept then is what it leaves
pub step_kept : (channel : PlainChannel) (wants : List PlainWant) (schedule : PlainSchedule) (lun number started : ℕ) (step : Step) (waiting : List PlainWant) (new : PlainSchedule)
    → IsStep channel wants schedule lun number started step → waiting ≡ plain_behind step.due.place step.due.group wants
    → ((all : List Want) → new ≡ written_schedule (later (started - step.due.start) (left_behind (schedule_of all schedule) step.due)))
    → IsRan (record { channel = channel; wants = wants; schedule = schedule })
    (record { channel = channel_then channel step.ended lun step.lun; wants = waiting; schedule = new }) lun number started
step_kept channel wants schedule lun number started step waiting new taken left later_is =
    let luns = luns_of channel in
    let old : Kept = record { channel = channel; wants = wants; schedule = schedule } in
    let f : Flight = flight_of taken.timing taken.rules channel.bus_free luns wants schedule in
    let due = step.due in
    let is = taken.there.is in
    let ended = end_of taken.timing due started in
    let state : LunState = lun_after taken.timing due.group due.phase ended in
    let luns_then : (after_late f due started).now.luns ≡ slice_set f.now.luns due.lun state = ap (λ (q : Problem). q.luns) (placed_is f due started is) in
    let there : slice_get (after_late f due started).now.luns due.lun ≡ Some state =
    ap (λ xs. slice_get xs due.lun) luns_then ∙ set_there f.now.luns due.lun state (due_lun f due is) in
    let wants_then : (after_late f due started).now.wants ≡ wants_behind due.place due.group f.now.wants = ap (λ (q : Problem). q.wants) (placed_is f due started is) in
    ran_then old f due lun number started step.ended step.lun waiting new taken.said taken.there taken.on_time
    (taken.ended ∙ sym (ap (λ (q : Problem). q.bus_free) (placed_is f due started is)))
    (λ x at.
    let e : Some state ≡ Some x = sym there ∙ at in
    let same : state ≡ x = cc in
    taken.lun_is ∙ ap (λ n. lun_in (lun_after taken.timing due.group due.phase n) (telling luns due.place due.lun due.group)) taken.ended ∙ ap (λ z. lun_in z (telling luns due.place due.lun due.group)) same)
    (ap (wants_of channel.rules.plane_bits) left ∙ left_again channel.rules.plane_bits due.place due.group wants
    ∙ ap (wants_behind due.place due.group) (sym taken.said.said.problem.requests) ∙ sym wants_then)
    (later_is f.now.wants)
    taken.limits

drop_front : {A : Type 0} (xs ys : List A) → drop (length xs) (xs ++ ys) ≡ ys
drop_front [] ys = refl
drop_front (x ∷ xs) ys = drop_front xs ys

left_fewer : (place : Option ℕ) (group : List Want) (wants : List PlainWant) → length (plain_behind place group wants) ≤ length wants
left_fewer None group wants = omega arith
left_fewer (Some at) group wants = filter_shorter (λ (w : PlainWant). not (list_any (λ (m : Want). m.id == w.id) group)) wants

-- .. in the caller's memory
pub step_given : (channel : PlainChannel) (room_old : List PlainWant) (count : ℕ) (schedule : PlainSchedule) (lun number started : ℕ) (step : Step) (waiting : List PlainWant)
    (new : PlainSchedule) (at n : ℕ) (room : List PlainWant) → IsStep channel (take count room_old) schedule lun number started step
    → waiting ≡ plain_behind step.due.place step.due.group (take count room_old)
    → ((all : List Want) → new ≡ written_schedule (later (started - step.due.start) (left_behind (schedule_of all schedule) step.due))) → at ≡ lun → n ≡ length waiting
    → room ≡ waiting ++ drop (length waiting) room_old
    → GivesRan (record { channel = channel; wants = take count room_old; schedule = schedule })
    (record { channel = channel_then channel step.ended at step.lun; wants = take n room; schedule = new }) room_old room count n lun number started 0
step_given channel room_old count schedule lun number started step waiting new at n room taken left later_is same_lun same_count is =
    let old : Kept = record { channel = channel; wants = take count room_old; schedule = schedule } in
    let now : ℕ → List PlainWant → Kept = λ i ws. record { channel = channel_then channel step.ended i step.lun; wants = ws; schedule = new } in
    let kept_is : IsRan old (now lun waiting) lun number started = step_kept channel (take count room_old) schedule lun number started step waiting new taken left later_is in
    let rest = drop (length waiting) room_old in
    let front : take n room ≡ waiting = ap (take n) is ∙ ap (λ k. take k (waiting ++ rest)) same_count ∙ take-append_seam waiting rest in
    let behind : drop n room ≡ drop n room_old =
    ap (drop n) is ∙ ap (λ k. drop k (waiting ++ rest)) same_count ∙ drop_front waiting rest ∙ ap (λ k. drop k room_old) (sym same_count) in
    let fewer = left_fewer step.due.place step.due.group (take count room_old) in
    let told = ap length left in
    let taken_few = length-take count room_old in
    gives_ran (subst (λ ws. IsRan old (now at ws) lun number started) (sym front) (subst (λ i. IsRan old (now i waiting) lun number started) (sym same_lun) kept_is))
    (omega (arith, same_count, told, fewer, taken_few)) behind refl

-- its LUN is there
pub step_there : (channel : PlainChannel) (wants : List PlainWant) (schedule : PlainSchedule) (lun number started : ℕ) (step : Step) (at : ℕ)
    → IsStep channel wants schedule lun number started step → at ≡ lun → at < length (luns_of channel)
step_there channel wants schedule lun number started step at taken same =
    let low = plain_there channel wants (flight_of taken.timing taken.rules channel.bus_free (luns_of channel) wants schedule) step.due started taken.said.said.problem taken.there.is in
    let lun_is = taken.there.lun_is in
    omega (arith, same, low, lun_is)
