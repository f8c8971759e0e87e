use Rattle.std.proofs.Common.{◌≡◌, map, take}
use Rattle.onfi_calls.specs.Audit.{no_stage, written_stage}
use Rattle.onfi_calls.specs.PlainSchedule.{filled}
use Rattle.onfi_calls.proofs.audit.plain_stages.Given as goal

abbrev pub invariant-loop-at : goal.invariant-loop-at
invariant-loop-at l = l.all ≡ filled 8 no_stage (map written_stage (take l.at l.stages))
