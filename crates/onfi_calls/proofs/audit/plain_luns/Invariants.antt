use Rattle.std.proofs.Common.{◌≡◌, map, take}
use Rattle.std.specs.List.{AllByRecursion as Each}
use Rattle.onfi_calls.specs.Audit.{IsFit, no_lun, written_lun}
use Rattle.onfi_calls.specs.PlainSchedule.{filled}
use Rattle.onfi_calls.proofs.audit.plain_luns.Given as goal

abbrev pub invariant-loop-at : goal.invariant-loop-at
invariant-loop-at l = record {
  made : l.all ≡ filled 8 no_lun (map written_lun (take l.at l.stages));
  fit : Each IsFit (take l.at l.stages);
}
