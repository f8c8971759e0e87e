use Rattle.std.proofs.Common.{◌≡◌, ◌++◌, drop}
use Rattle.onfi_gap.specs.Cuts.{states_from}
use Rattle.onfi_gap.proofs.cut.states_of.Given as goal

abbrev pub invariant-loop-lun : goal.invariant-loop-lun
invariant-loop-lun l = l.states.items ++ states_from l.notes l.walk.on l.end l.lun (drop l.lun l.walk.audit.luns) ≡ states_from l.notes l.walk.on l.end 0 l.walk.audit.luns
