use Rattle.std.proofs.Common.{◌≡◌, length}
use Rattle.onfi_script.specs.PlanText.{rests}
use Rattle.onfi_script.proofs.plan_text.collect_rests.Given as goal

abbrev pub invariant-loop-lun : goal.invariant-loop-lun
invariant-loop-lun l = (l.rests.items ≡ rests l.lines l.lun) × (length l.rests.items ≡ l.lun)
