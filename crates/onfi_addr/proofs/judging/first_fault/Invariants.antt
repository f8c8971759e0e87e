use Rattle.std.proofs.Common.{◌<◌}
use Rattle.onfi_addr.specs.declared.fault.GeometryFault.{GeometryFault}
use Rattle.onfi_addr.specs.Faults.{Has, order_of}
use Rattle.onfi_addr.proofs.judging.first_fault.Given as goal

abbrev pub invariant-loop-fault : goal.invariant-loop-fault
invariant-loop-fault l = (earlier : GeometryFault) → order_of earlier < l.fault-index → ¬ Has l.page earlier
