use Rattle.std.proofs.Common.{◌≤◌, ◌∙◌, ◌+◌, length, map, sym, ap, arith}
use Rattle.csv.specs.Records.{fields_of}
use Rattle.onfi_timing.specs.Sheet.{with_record, with_records}
use Rattle.onfi_timing.proofs.Walk.{walk_on, walk_stopped, walk_ended}
use Rattle.onfi_timing.proofs.sheet.Sheet.of_records.Goals as goal

pub loop-at-init : goal.loop-at-init
loop-at-init c = ap (λ s. with_records s 1 (map fields_of c.args.records.now)) (sym c.new-sheet.ensures)

pub loop-at-preserved : goal.loop-at-preserved
loop-at-preserved c =
    let at = c.loop-at.at in
    let row = c.index-records-at.result in
    let step = ap (λ r. with_record c.loop-at.sheet (at + 1) (fields_of r)) (sym c.index-records-at.is) ∙ c.in_default.ensures in
    c.loop-at.invariant ∙ walk_on fields_of with_record c.args.records.now at row c.loop-at.sheet c.put_record.new.self c.loop-at-test.true step

pub returns-in-Err : goal.returns-in-Err
returns-in-Err c =
    let at = c.loop-at.at in
    let row = c.index-records-at.result in
    let step = ap (λ r. with_record c.loop-at.sheet (at + 1) (fields_of r)) (sym c.index-records-at.is) ∙ c.in-Err.ensures in
    c.loop-at.invariant ∙ walk_stopped fields_of with_record c.args.records.now at row c.loop-at.sheet c.in-Err.fault c.loop-at-test.true step

pub returns : goal.returns
returns c =
    let size : length c.args.records.now ≤ c.loop-at.at = omega arith in
    c.loop-at.invariant ∙ walk_ended fields_of with_record c.args.records.now c.loop-at.at c.loop-at.sheet size
