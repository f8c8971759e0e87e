-- Moves: which phase may come next, when at the earliest, and what it leaves.
use Rattle.std.specs.Prelude.{◌≡◌, ℕ, ◌+◌, ◌*◌, ◌<◌, ◌≢◌, ◌⊎◌, max, nat_lt, not, List, [], length, Option, Some, None, slice_get, slice_set, if◌then◌else◌}
use Rattle.std.specs.List.{AllByRecursion as Each, filter}
use Rattle.onfi_timing.specs.declared.timing.Timing.{Timing}
use Rattle.onfi_timing.specs.Phases.{phase_length, wait_before}
use Rattle.onfi_request.specs.declared.want.Want.{Want}
use Rattle.onfi_group.specs.Words.{Has, Pairs}
use Rattle.onfi_group.specs.Group.{lun_of, group_spans, IsStartable, is_member, mask_of}
use Rattle.onfi_problem.specs.declared.lun_state.LunState.{LunState}
use Rattle.onfi_problem.specs.declared.lun_state.LunState.TheVariants.{Free, Running}
use Rattle.onfi_problem.specs.Problem.{Problem}

-- the next phase of a running LUN, or the first phase of a new group
pub data Move : Type 0 where
  Next : ℕ → Move
  Start : List Want → Move

abbrev pub move_lun : Move → ℕ
move_lun (Next lun) = lun
move_lun (Start group) = lun_of group

-- a running LUN has its next phase, a free one each group that may be started on it
abbrev pub IsMove : Problem → Move → Type 0
IsMove p (Next lun) = (group : List Want) × (next : ℕ) × (ready : ℕ) × (slice_get p.luns lun ≡ Some (Running group next ready))
IsMove p (Start group) = (since : ℕ) × (slice_get p.luns (lun_of group) ≡ Some (Free since)) × IsStartable p.rules p.wants group

-- from when on a LUN may go on
abbrev pub free_from : Option LunState → ℕ
free_from None = 0
free_from (Some (Free since)) = since
free_from (Some (Running group next ready)) = ready

abbrev pub may_go : Problem → ℕ → ℕ
may_go p lun = max p.bus_free (free_from (slice_get p.luns lun))

abbrev pub earliest : Problem → Move → ℕ
earliest p m = may_go p (move_lun m)

-- the LUN once phase n of the group has ended
abbrev pub lun_after : Timing → List Want → ℕ → ℕ → LunState
lun_after timing group n ended =
    if nat_lt (n + 1) (2 * length group)
    then Running group (n + 1) (ended + wait_before (group_spans timing group) (length group) (n + 1))
    else Free ended

-- phase n of the group runs on the LUN from `start`
abbrev pub ran : Problem → ℕ → List Want → ℕ → ℕ → Problem
ran p lun group n start =
    let ended = start + phase_length (group_spans p.timing group) (length group) n in
    record { timing = p.timing; rules = p.rules; bus_free = ended; luns = slice_set p.luns lun (lun_after p.timing group n ended); wants = p.wants }

-- the same, with these wants left
abbrev pub ran_with : Problem → ℕ → List Want → ℕ → ℕ → List Want → Problem
ran_with p lun group n start wants = record (ran p lun group n start) { wants = wants }

-- the wants that are not in the group
abbrev pub without : List Want → List Want → List Want
without group wants = filter (λ w. not (is_member group w)) wants

abbrev pub next_ran : Problem → ℕ → Option LunState → ℕ → Problem
next_ran p lun None start = p
next_ran p lun (Some (Free since)) start = p
next_ran p lun (Some (Running group next ready)) start = ran p lun group next start

-- the problem after the move's phase started at `start`
abbrev pub placed : Problem → Move → ℕ → Problem
placed p (Next lun) start = next_ran p lun (slice_get p.luns lun) start
placed p (Start group) start = record (ran p (lun_of group) group 0 start) { wants = without group p.wants }

abbrev pub after : Problem → Move → Problem
after p m = placed p m (earliest p m)

-- nothing is left
pub record IsDone (p : Problem) : Type 0 where
  pub wants : p.wants ≡ []
  pub free : (lun : ℕ) (group : List Want) (next ready : ℕ) → slice_get p.luns lun ≢ Some (Running group next ready)

-- the bit mask of list positions that a move starts
abbrev pub move_mask : Problem → Move → ℕ
move_mask p (Next lun) = 0
move_mask p (Start group) = mask_of p.wants group

-- in rising LUN, then in rising bit mask
abbrev pub ComesBefore : Problem → Move → Move → Type 0
ComesBefore p a b = (move_lun a < move_lun b) ⊎ ((move_lun a ≡ move_lun b) × (move_mask p a < move_mask p b))

-- the list of all moves, in their order
pub record AreMoves (p : Problem) (moves : List Move) : Type 0 where
  pub moves_only : Each (IsMove p) moves
  pub each : (m : Move) → IsMove p m → Has moves m
  pub order : Pairs (ComesBefore p) moves
