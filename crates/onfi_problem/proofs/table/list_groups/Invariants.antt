use Rattle.std.proofs.Common.{◌≡◌, ℕ, ◌<◌, ◌≤◌, ◌++◌, List, length}
use Rattle.std.specs.Prelude.{slice_index}
use Rattle.onfi_request.specs.declared.want.Want.{Want}
use Rattle.onfi_problem.specs.Kept.{IsOwn}
use Rattle.onfi_problem.proofs.table.list_groups.Given as goal

abbrev pub invariant-loop-lun : goal.invariant-loop-lun
invariant-loop-lun l = record {
  opened : slice_index l.first 0 ≤ 8;
  last : slice_index l.first l.lun ≡ length l.groups.items;
  long : length l.first ≡ 9;
  own : (k : ℕ) → k < l.lun → IsOwn l.rules l.wants l.groups.items l.first k;
  grown : (more : List (List Want)) × (l.groups.items ≡ l.fn.groups.items ++ more);
}
