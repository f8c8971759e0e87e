use Rattle.std.proofs.Common.{◌≡◌, take}
use Rattle.onfi_schedule.specs.Schedule.{Schedule}
use Rattle.onfi_schedule.specs.Runs.{empty}
use Rattle.onfi_planner.specs.Planning.{run_of}
use Rattle.onfi_planner.proofs.Stacking.{stacked}
use Rattle.onfi_planner.proofs.placing.schedule_of.Given as goal

abbrev pub invariant-loop-begun : goal.invariant-loop-begun
invariant-loop-begun l = ◌≡◌ {A = Schedule} (record { rest = l.rest.items; groups = l.groups.items }) (stacked (empty l.problem.problem) (run_of l.problem.groups (take l.begun-index l.steps)))
