use Rattle.std.proofs.Common.{◌≡◌}
use Rattle.onfi_script.specs.Setup.{states}
use Rattle.onfi_script.proofs.setup.states.Given as goal

abbrev pub invariant-loop-lun : goal.invariant-loop-lun
invariant-loop-lun l = l.states.items ≡ states l.plane_bits l.rows l.lun
