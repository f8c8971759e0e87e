use Rattle.std.proofs.Common.{sym, ap, ◌∙◌, arith, rules, Ok, ◌≡◌, ℕ, drop, length-append}
use Rattle.csv.specs.Records.{fields_of}
use Rattle.onfi_script.specs.Field.{field, sectors}
use Rattle.onfi_script.specs.Row.{each_of}
use Rattle.onfi_script.proofs.BlockLemmas.{field_passed}
use Rattle.onfi_script.proofs.sector_row.counts.Goals as goal

pub loop-at-preserved : goal.loop-at-preserved
loop-at-preserved c =
    let row = fields_of c.args.row.now in
    let ok : sectors (field row c.loop-at.at) ≡ Ok c.in_ok-sectors.field-0 = ap sectors (sym c.field.ensures) ∙ sym c.in_ok-sectors.ensures in
    record {
      read = rw c.push_reserved.ensures.items (field_passed sectors row c.loop-at.at c.in_ok-sectors.field-0 c.loop-at.counts.items (each_of sectors (drop 2 row)) (omega arith) ok c.loop-at.invariant.read);
      len = rw c.push_reserved.ensures.items (omega (arith, length-append {A = ℕ}));
      room = search rules;
    }
