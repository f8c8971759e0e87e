use Rattle.std.proofs.Common.{◌≡◌, ◌+◌, ◌*◌}
use Rattle.onfi_planner.specs.Planning.{work}
use Rattle.onfi_planner.proofs.Growing.{Growing}
use Rattle.onfi_planner.proofs.Halfway.{Listed}
use Rattle.onfi_planner.proofs.certificate.+write.Given as goal

abbrev pub decreases-write : goal.decreases-write
decreases-write l = 2 * work l.problem.now.problem + 1

abbrev pub decreases-write_below : goal.decreases-write_below
decreases-write_below l = 2 * work l.problem.now.problem

abbrev pub invariant-write-loop-step : goal.invariant-write-loop-step
invariant-write-loop-step l = record {
  problem : l.problem ≡ l.fn.problem;
  listed : Listed l.fn.problem l.steps;
  growing : Growing l.fn.problem l.steps l.yields l.e l.step-index l.fn.tokens.items l.tokens.items;
}
