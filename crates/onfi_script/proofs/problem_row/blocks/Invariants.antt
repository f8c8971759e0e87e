use Rattle.std.proofs.Common.{◌≡◌, ◌+◌, ◌++◌, length, drop, Ok}
use Rattle.csv.specs.Records.{fields_of}
use Rattle.onfi_script.specs.Field.{given}
use Rattle.onfi_script.specs.Row.{blocks_of}
use Rattle.onfi_script.proofs.problem_row.blocks.Given as goal

abbrev pub invariant-loop-at : goal.invariant-loop-at
invariant-loop-at l = record {
  read : blocks_of (drop 6 (fields_of l.row)) ≡ given (blocks_of (drop l.at (fields_of l.row))) (λ rest. Ok (l.blocks.items ++ rest));
  len : length l.blocks.items + 6 ≡ l.at;
  room : l.blocks.capacity ≡ 4;
}
