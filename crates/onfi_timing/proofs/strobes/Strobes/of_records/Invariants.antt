use Rattle.std.proofs.Common.{◌≡◌, ◌+◌, map, drop}
use Rattle.csv.specs.Records.{fields_of}
use Rattle.onfi_timing.specs.StrobeRows.{no_strobes, with_strobe_records}
use Rattle.onfi_timing.proofs.strobes.Strobes.of_records.Given as goal

abbrev pub invariant-loop-at : goal.invariant-loop-at
invariant-loop-at l = with_strobe_records no_strobes 1 (map fields_of l.records) ≡ with_strobe_records l.strobes (l.at + 1) (map fields_of (drop l.at l.records))
