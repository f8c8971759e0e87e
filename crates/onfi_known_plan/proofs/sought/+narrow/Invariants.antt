use Rattle.std.proofs.Common.{◌-◌}
use Rattle.onfi_known_plan.proofs.sought.+narrow.Given as goal

abbrev pub decreases-narrow : goal.decreases-narrow
decreases-narrow l = l.sought.most - l.sought.below
