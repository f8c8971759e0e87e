use Rattle.std.proofs.Common.{◌≡◌, replicate}
use Rattle.onfi_problem.specs.declared.lun_state.LunState.TheVariants.{Free}
use Rattle.onfi_flight.proofs.luns.Luns.free.Given as goal

abbrev pub invariant-loop-lun : goal.invariant-loop-lun
invariant-loop-lun l = l.luns ≡ replicate l._lun (Free 0)
