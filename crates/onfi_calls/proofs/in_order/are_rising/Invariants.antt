use Rattle.std.proofs.Common.{◌↔◌, drop}
use Rattle.onfi_calls.specs.InOrder.{RiseFrom}
use Rattle.onfi_calls.proofs.in_order.are_rising.Given as goal

abbrev pub invariant-loop-want : goal.invariant-loop-want
invariant-loop-want l = RiseFrom 0 l.below l.wants ↔ RiseFrom l.floor l.below (drop l.want-index l.wants)
