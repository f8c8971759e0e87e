use Rattle.std.proofs.Common.{length}
use Rattle.onfi_run.proofs.opening.Stage.+open_each.Given as goal

abbrev pub decreases-open_each : goal.decreases-open_each
decreases-open_each g l = length l.gates.items
