use Rattle.std.proofs.Common.{◌≡◌, ◌+◌, ◌++◌, length, drop, Ok}
use Rattle.csv.specs.Records.{fields_of}
use Rattle.onfi_script.specs.Field.{given, sectors}
use Rattle.onfi_script.specs.Row.{each_of}
use Rattle.onfi_script.proofs.sector_row.counts.Given as goal

abbrev pub invariant-loop-at : goal.invariant-loop-at
invariant-loop-at l = record {
  read : each_of sectors (drop 2 (fields_of l.row)) ≡ given (each_of sectors (drop l.at (fields_of l.row))) (λ rest. Ok (l.counts.items ++ rest));
  len : length l.counts.items + 2 ≡ l.at;
  room : l.counts.capacity ≡ 4;
}
