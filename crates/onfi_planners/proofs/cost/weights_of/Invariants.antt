use Rattle.std.proofs.Common.{◌≡◌, take}
use Rattle.arrayvec.specs.ArrayVec.{array_vec_len}
use Rattle.onfi_planners.specs.Cost.{member_weights}
use Rattle.onfi_planners.proofs.cost.weights_of.Given as goal

abbrev pub invariant-loop-member : goal.invariant-loop-member
invariant-loop-member l = record {
  len : array_vec_len l.own ≡ l.member-index;
  items : l.own.items ≡ member_weights l.wants l.weights (take l.member-index l.members);
}
