use Rattle.std.proofs.Common.{sym, ap, ◌∙◌, arith, rules, Ok, ◌≡◌, ℕ, drop, length-append}
use Rattle.csv.specs.Records.{fields_of}
use Rattle.onfi_script.specs.Field.{field, block}
use Rattle.onfi_script.specs.Row.{blocks_of}
use Rattle.onfi_script.proofs.BlockLemmas.{field_passed}
use Rattle.onfi_script.proofs.problem_row.blocks.Goals as goal

pub loop-at-preserved : goal.loop-at-preserved
loop-at-preserved c =
    let row = fields_of c.args.row.now in
    let ok : block (field row c.loop-at.at) ≡ Ok c.in_ok-block.field-0 = ap block (sym c.field.ensures) ∙ sym c.in_ok-block.ensures in
    record {
      read = rw c.push_reserved.ensures.items (field_passed block row c.loop-at.at c.in_ok-block.field-0 c.loop-at.blocks.items (blocks_of (drop 6 row)) (omega arith) ok c.loop-at.invariant.read);
      len = rw c.push_reserved.ensures.items (omega (arith, length-append {A = ℕ}));
      room = search rules;
    }
