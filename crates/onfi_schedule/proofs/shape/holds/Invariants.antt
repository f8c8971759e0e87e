use Rattle.std.proofs.Common.{◌↔◌, drop}
use Rattle.onfi_group.specs.Words.{Has}
use Rattle.onfi_schedule.proofs.shape.holds.Given as goal

abbrev pub invariant-loop-other : goal.invariant-loop-other
invariant-loop-other l = Has (drop l.other-index l.wants) l.want ↔ Has l.wants l.want
