-- How a problem is kept: in a few numbers, marks and a table of groups.
use Rattle.std.specs.Prelude.{◌≡◌, ℕ, ◌+◌, ◌<◌, ◌≤◌, Bool, List, length, map, slice_index, slice_range}
use Rattle.std.specs.List.{AllByRecursion as Each}
use Rattle.onfi_timing.specs.declared.timing.Timing.{Timing}
use Rattle.onfi_request.specs.declared.want.Want.{Want}
use Rattle.onfi_group.specs.declared.rules.Rules.{Rules}
use Rattle.onfi_group.specs.Words.{Pairs}
use Rattle.onfi_group.specs.Listing.{AreCandidates}
use Rattle.onfi_problem.specs.declared.lun_state.LunState.{LunState}
use Rattle.onfi_problem.specs.declared.moves.Lun.{Lun}
use Rattle.onfi_problem.specs.declared.start_marks.StartMarks.{StartMarks}
use Rattle.onfi_problem.specs.Problem.{Problem, IsWant}
use Rattle.onfi_problem.specs.Left.{InLimits}
use Rattle.onfi_problem.specs.Position.{Position, waiting_of, state_of}
use Rattle.onfi_problem.specs.StartMarks.{start_marks}

-- the problem of these parts
abbrev pub problem_of : Timing → Rules → ℕ → List LunState → List Want → Problem
problem_of timing rules bus_free luns wants = record { timing = timing; rules = rules; bus_free = bus_free; luns = luns; wants = wants }

-- the position that is kept as these parts
abbrev pub position_of : Timing → Rules → ℕ → List Lun → List Want → List Bool → List (List Want) → Position
position_of timing rules bus_free luns all waiting groups = record { problem = problem_of timing rules bus_free (map (state_of groups) luns) (waiting_of waiting all); all = all; groups = groups }

-- a position that the program keeps is in the limits, and so are the wants that it began with
pub record IsKept (x : Position) : Type 0 where
  pub limits : InLimits x.problem
  pub few : length x.all ≤ 8
  pub wants : Each IsWant x.all
  pub ids : Pairs (λ a b. a.id < b.id) x.all

-- from the place at number `lun` to that at the next one stand the groups that the LUN's wants can form
pub record IsOwn (rules : Rules) (all : List Want) (groups : List (List Want)) (first : List ℕ) (lun : ℕ) : Type 0 where
  pub rising : slice_index first lun ≤ slice_index first (lun + 1)
  pub within : slice_index first (lun + 1) ≤ length groups
  pub candidates : AreCandidates rules all lun (slice_range groups (slice_index first lun) (slice_index first (lun + 1)))

-- at most eight groups that run from the beginning, then those of each LUN, and the marks of each group
pub record IsTable (rules : Rules) (all : List Want) (luns : ℕ) (groups : List (List Want)) (first : List ℕ) (marks : List StartMarks) : Type 0 where
  pub opened : slice_index first 0 ≤ 8
  pub own : (lun : ℕ) → lun < luns → IsOwn rules all groups first lun
  pub asked : marks ≡ map (start_marks all) groups
