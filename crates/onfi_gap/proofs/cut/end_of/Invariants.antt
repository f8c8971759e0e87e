use Rattle.std.proofs.Common.{◌≡◌, max, drop}
use Rattle.onfi_gap.specs.Cuts.{end_of}
use Rattle.onfi_gap.proofs.cut.end_of.Given as goal

abbrev pub invariant-loop-group : goal.invariant-loop-group
invariant-loop-group l = max l.last (end_of (drop l.group-index l.groups)) ≡ end_of l.groups
