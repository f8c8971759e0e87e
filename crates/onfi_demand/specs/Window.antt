-- The window bound: phases that don't start before a time and don't end near the finish stand in between, one after another.
use Rattle.std.specs.Prelude.{ℕ, zero, suc, ◌+◌, ◌*◌, ◌-◌, ◌≤◌, max, nat_le, if◌then◌else◌, Bool, false, List, [], ◌∷◌, ◌++◌, length, Option, Some, slice_get}
use Rattle.onfi_timing.specs.declared.timing.Timing.{Timing}
use Rattle.onfi_timing.specs.Kinds.{spans_of}
use Rattle.onfi_timing.specs.Phases.{Lengths, phase_length, wait_before, posts_from}
use Rattle.onfi_request.specs.declared.want.Want.{Want}
use Rattle.onfi_group.specs.declared.rules.Rules.{Rules}
use Rattle.onfi_group.specs.Words.{total}
use Rattle.onfi_group.specs.Group.{group_spans}
use Rattle.onfi_problem.specs.declared.lun_state.LunState.{LunState}
use Rattle.onfi_problem.specs.declared.lun_state.LunState.TheVariants.{Running}
use Rattle.onfi_problem.specs.Problem.{Problem, IsProblem}
use Rattle.onfi_problem.specs.Moves.{may_go}
use Rattle.onfi_problem.specs.Left.{commands_left, waits_left}
use Rattle.onfi_schedule.specs.Runs.{Step, Run}
use Rattle.onfi_bound.specs.Bounds.{on_lun, wants_work}
use Rattle.onfi_demand.specs.Demand.{Demand, of_luns}
use Rattle.onfi_demand.specs.Laws.{Asks}

-- a phase that is left: how long after the time from which its LUN may go on it starts at the earliest, its length, and what is
-- at least between its end and the finish
pub record PhaseLeft : Type 0 where
  pub from : ℕ
  pub length : ℕ
  pub tail : ℕ

-- what is left of a group of k from phase n on, with its waits
abbrev pub chain_from : Lengths → ℕ → ℕ → ℕ
chain_from lengths k n = commands_left k n * lengths.cmd + posts_from lengths k n + waits_left lengths k n

abbrev pub group_phase : Lengths → ℕ → ℕ → ℕ → ℕ → PhaseLeft
group_phase lengths k rest n from = record { from = from; length = phase_length lengths k n; tail = wait_before lengths k (n + 1) + chain_from lengths k (n + 1) + rest }

-- `count` phases of a group of k from phase n on, and `rest` after the group
abbrev pub group_left : Lengths → ℕ → ℕ → ℕ → ℕ → ℕ → List PhaseLeft
group_left lengths k rest zero n from = []
group_left lengths k rest (suc count) n from = group_phase lengths k rest n from ∷ group_left lengths k rest count (n + 1) (from + phase_length lengths k n + wait_before lengths k (n + 1))

-- a command and a post for each want
abbrev pub wants_left : Timing → ℕ → List Want → List PhaseLeft
wants_left timing from [] = []
wants_left timing from (w ∷ wants) =
    let spans = spans_of timing w.kind in
    record { from = from; length = spans.cmd; tail = spans.array + spans.post } ∷ record { from = from + spans.cmd + spans.array; length = spans.post; tail = 0 } ∷ wants_left timing from wants

-- all phases that are left to a LUN
abbrev pub phases_left_at : Timing → Rules → List Want → Option LunState → List PhaseLeft
phases_left_at timing rules wants (Some (Running group next ready)) = group_left (group_spans timing group) (length group) (wants_work timing rules wants) (2 * length group - next) next 0 ++ wants_left timing (chain_from (group_spans timing group) (length group) next) wants
phases_left_at timing rules wants _ = wants_left timing 0 wants

abbrev pub phases_left_on : Problem → ℕ → List PhaseLeft
phases_left_on p lun = phases_left_at p.timing p.rules (on_lun lun p.wants) (slice_get p.luns lun)

-- the phase starts at r or later, where its LUN may go on from `go`, and at least q is after it
abbrev pub is_within : ℕ → ℕ → ℕ → PhaseLeft → Bool
is_within go r q phase = if nat_le r (go + phase.from) then nat_le q phase.tail else false

-- the lengths of the phases within
abbrev pub within : ℕ → ℕ → ℕ → List PhaseLeft → ℕ
within go r q phases = total (λ phase. if is_within go r q phase then phase.length else 0) phases

-- f 0 + .. + f (n - 1)
abbrev pub sum_of : ℕ → (ℕ → ℕ) → ℕ
sum_of zero f = 0
sum_of (suc n) f = f n + sum_of n f

-- of all LUNs
abbrev pub window : Problem → ℕ → ℕ → ℕ
window p r q = sum_of (length p.luns) (λ lun. within (may_go p lun) r q (phases_left_on p lun))

-- how late a LUN must go on, so that each of its phases within starts at n or later
abbrev pub needed : ℕ → ℕ → ℕ → ℕ → List PhaseLeft → ℕ
needed go r q n [] = 0
needed go r q n (phase ∷ phases) = max (if is_within go r q phase then n - phase.from else 0) (needed go r q n phases)

-- all that is within stands between what it starts from and q before the finish
abbrev pub window_demand : Problem → ℕ → ℕ → ℕ → Demand
window_demand p r q e = of_luns (λ lun. needed (may_go p lun) r q (e - (window p r q + q)) (phases_left_on p lun))

-- each phase takes some time, so some phase is within where the window isn't empty
pub record IsWindow (p : Problem) (e r q : ℕ) : Type 0 where
  pub some : 1 ≤ window p r q
  pub reaches : e ≤ r + window p r q + q

abbrev pub WindowLaw : Type 0
WindowLaw = (p : Problem) (steps : List Step) (f r q : ℕ) → IsProblem p → 1 ≤ window p r q → Run p steps f → r + window p r q + q ≤ f

abbrev pub WindowAsksLaw : Type 0
WindowAsksLaw = (p : Problem) (e r q : ℕ) → IsProblem p → IsWindow p e r q → Asks e p (window_demand p r q e)
