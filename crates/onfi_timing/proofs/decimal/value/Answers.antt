use Rattle.std.proofs.Common.{◌∙◌}
use Rattle.onfi_timing.proofs.Digits.{digit_at, value_step}
use Rattle.onfi_timing.proofs.decimal.value.Goals as goal

pub loop-byte-preserved : goal.loop-byte-preserved
loop-byte-preserved c =
    let text = c.args.text.now in
    let at = c.loop-byte.byte-index in
    value_step text at c.loop-byte.value c.from.result c.saturating_mul.result c.saturating_add-value.result
    c.loop-byte-test.true (digit_at text at c.loop-byte-test.true c.requires) c.loop-byte.invariant (c.from.ensures ∙ c.saturating_sub.ensures)
    c.saturating_mul.ensures c.saturating_add-value.ensures
