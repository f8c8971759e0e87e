use Rattle.std.proofs.Common.{◌≡◌, map, drop, length}
use Rattle.csv.specs.Records.{fields_of}
use Rattle.onfi_script.specs.Seen.{seen}
use Rattle.onfi_script.specs.ArraysTold.{AreTold}
use Rattle.onfi_script.specs.Rows.{rows_of, rows_after}
use Rattle.onfi_script.proofs.rows.rows.Given as goal

abbrev pub invariant-loop-at : goal.invariant-loop-at
invariant-loop-at l = record {
  read : rows_of l.purpose (map fields_of l.records) ≡ rows_after l.purpose l.rows.items (map fields_of (drop l.at l.records));
  len : length l.rows.items ≡ l.at;
  seen : l.seen ≡ seen l.rows.items;
  arrays : AreTold l.rows.items l.arrays.names.keys;
}
