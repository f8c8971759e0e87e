use Rattle.std.proofs.Common.{length}
use Rattle.onfi_run.proofs.finishing.+gather.Given as goal

abbrev pub decreases-gather : goal.decreases-gather
decreases-gather g l = length l.lanes.items
