use Rattle.std.proofs.Common.{◌≡◌, ◌^◌, ◌<◌, map, take}
use Rattle.std.specs.List.{AllByRecursion as Each}
use Rattle.arrayvec.specs.ArrayVec.{array_vec_len}
use Rattle.onfi_timing.specs.Kinds.{spans_of}
use Rattle.onfi_planners.proofs.cost.posts_of.Given as goal

abbrev pub invariant-loop-member : goal.invariant-loop-member
invariant-loop-member l = record {
  len : array_vec_len l.posts ≡ l.member-index;
  items : l.posts.items ≡ map (λ m. (spans_of l.timing m.kind).post) (take l.member-index l.members);
  short : Each (λ t. t < 2 ^ 50) l.posts.items;
}
