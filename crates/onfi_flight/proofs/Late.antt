-- A schedule that is legal after a phase is so later, where the phase is later by as much.
use Rattle.std.proofs.Common.{◌≡◌, ℕ, ◌+◌, ◌*◌, ◌≤◌, List, length, map, refl, sym, ap, subst, arith}
use Rattle.std.specs.Prelude.{◌-◌, nat_lt, if◌then◌else◌, Bool, true, false, slice_set}
use Rattle.onfi_timing.specs.declared.timing.Timing.{Timing}
use Rattle.onfi_timing.specs.Phases.{phase_length, wait_before}
use Rattle.onfi_request.specs.declared.want.Want.{Want}
use Rattle.onfi_group.specs.Group.{group_spans, lun_of}
use Rattle.onfi_problem.specs.declared.lun_state.LunState.TheVariants.{Free, Running}
use Rattle.onfi_problem.specs.Problem.{Problem}
use Rattle.onfi_problem.specs.Moves.{Move, Next, Start, IsMove, lun_after, next_ran, placed, ran_with, without}
use Rattle.onfi_problem.proofs.Lists.{map_set}
use Rattle.onfi_schedule.specs.Schedule.{Schedule, Legal}
use Rattle.onfi_schedule.proofs.Earlier.{sooner_legal}
use Rattle.onfi_schedule.proofs.Sooner.{SoonerState, at_times, set_sooner}
use Rattle.onfi_flight.specs.Times.{later}
use Rattle.onfi_flight.proofs.Shifted.{later_state, luns_later, shifted_legal}

after_by : (more : Bool) (d : ℕ) (group : List Want) (n ready early late ended : ℕ) → late ≤ early + d → ended ≤ ready + d
    → SoonerState (if more then Running group n late else Free ended) (later_state d (if more then Running group n early else Free ready))
after_by true d group n ready early late ended a b = (refl, refl, a)
after_by false d group n ready early late ended a b = b

after_later : (d : ℕ) (timing : Timing) (group : List Want) (n early late : ℕ) → late ≤ early + d → SoonerState (lun_after timing group n late) (later_state d (lun_after timing group n early))
after_later d timing group n early late le =
    let wait = wait_before (group_spans timing group) (length group) (n + 1) in
    after_by (nat_lt (n + 1) (2 * length group)) d group (n + 1) early (early + wait) (late + wait) late (omega (arith, le)) le

-- the phase of a group on a LUN, from `start` or later
ran_later : (p : Problem) (lun : ℕ) (group : List Want) (n start d : ℕ) (wants : List Want) (s : Schedule) → Legal (ran_with p lun group n start wants) s
    → Legal (ran_with p lun group n (start + d) wants) (later d s)
ran_later p lun group n start d wants s lg =
    let len = phase_length (group_spans p.timing group) (length group) n in
    let early = lun_after p.timing group n (start + len) in
    let late = lun_after p.timing group n (start + d + len) in
    let le : start + d + len ≤ start + len + d = omega arith in
    let q : Legal (at_times p.timing p.rules wants (start + len + d) (map (later_state d) (slice_set p.luns lun early))) (later d s) = shifted_legal
    (ran_with p lun group n start wants) s d lg in
    let moved = subst (λ luns. Legal (at_times p.timing p.rules wants (start + len + d) luns) (later d s)) (map_set (later_state d) p.luns lun early) q in
    let luns = set_sooner p.luns (map (later_state d) p.luns) lun late (later_state d early) (luns_later d p.luns)
    (after_later d p.timing group n (start + len) (start + d + len) le) in
    sooner_legal p.timing p.rules wants (start + d + len) (start + len + d) (slice_set p.luns lun late) (slice_set (map (later_state d) p.luns) lun (later_state d early)) (later d s) le luns moved

late_by : (p : Problem) (move : Move) (start d : ℕ) (s : Schedule) → IsMove p move → Legal (placed p move start) s → Legal (placed p move (start + d)) (later d s)
late_by p (Next lun) start d s (g, n, r, at) lg =
    let is : (t : ℕ) → placed p (Next lun) t ≡ ran_with p lun g n t p.wants = λ t. ap (λ o. next_ran p lun o t) at in
    subst (λ q. Legal q (later d s)) (sym (is (start + d))) (ran_later p lun g n start d p.wants s (subst (λ q. Legal q s) (is start) lg))
late_by p (Start group) start d s mv lg = ran_later p (lun_of group) group 0 start d (without group p.wants) s lg

pub late_legal : (p : Problem) (move : Move) (start started : ℕ) (s : Schedule) → IsMove p move → start ≤ started → Legal (placed p move start) s → Legal (placed p move started) (later (started - start) s)
late_legal p move start started s is le lg =
    let e : start + (started - start) ≡ started = omega (arith, le) in
    subst (λ t. Legal (placed p move t) (later (started - start) s)) e (late_by p move start (started - start) s is lg)
