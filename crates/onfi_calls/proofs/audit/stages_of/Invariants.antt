use Rattle.std.proofs.Common.{◌≡◌, take}
use Rattle.onfi_audit.specs.declared.stage.LunStage.TheVariants.{Free}
use Rattle.onfi_calls.specs.Audit.{stages_of}
use Rattle.onfi_calls.specs.PlainSchedule.{filled}
use Rattle.onfi_calls.proofs.audit.stages_of.Given as goal

abbrev pub invariant-loop-at : goal.invariant-loop-at
invariant-loop-at l = l.stages ≡ filled 8 (Free 0) (stages_of l.plane_bits (take l.at l.luns) l.said)
