use Rattle.std.proofs.Common.{◌≡◌, ◌≤◌, ◌++◌, List, length, map, take}
use Rattle.onfi_request.specs.declared.want.Want.{Want}
use Rattle.onfi_problem.specs.Position.{state_of}
use Rattle.onfi_problem.proofs.table.open_luns.Given as goal

abbrev pub invariant-loop-at : goal.invariant-loop-at
invariant-loop-at l = record {
  states : (more : List (List Want)) → map (state_of (l.groups.items ++ more)) l.luns.items ≡ take l.at l.states;
  few : length l.groups.items ≤ l.at;
  luns : length l.luns.items ≡ l.at;
}
