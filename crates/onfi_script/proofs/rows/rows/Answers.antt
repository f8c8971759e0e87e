use Rattle.std.proofs.Common.{arith}
use Rattle.std.proofs.lemmas.Grind.{common_steps}
use Rattle.onfi_script.specs.Rows.{rows_after}
use Rattle.onfi_script.proofs.rows.rows.Goals as goal

pub loop-at-preserved : goal.loop-at-preserved
unfolding rows_after
loop-at-preserved c = record {
  read = grind (arith, common_steps, c.in_default.ensures.rows, c.loop-at.invariant.read, c.loop-at.invariant.seen, c.in-Ok.ensures, c.as_slice.ensures.value);
  len = grind (arith, common_steps, c.in_default.ensures.rows);
  seen = grind (arith, common_steps, c.in_default.ensures.rows, c.loop-at.invariant.seen, c.after-seen.ensures);
  arrays = c.in_default.ensures.arrays c.loop-at.invariant.arrays;
}
