use Rattle.std.proofs.Common.{◌≡◌, ◌+◌, map, drop}
use Rattle.csv.specs.Records.{fields_of}
use Rattle.onfi_timing.specs.Sheet.{nothing, with_records}
use Rattle.onfi_timing.proofs.sheet.Sheet.of_records.Given as goal

abbrev pub invariant-loop-at : goal.invariant-loop-at
invariant-loop-at l = with_records nothing 1 (map fields_of l.records) ≡ with_records l.sheet (l.at + 1) (map fields_of (drop l.at l.records))
