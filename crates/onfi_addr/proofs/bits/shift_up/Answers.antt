use Rattle.std.proofs.Common.{◌≡◌, ◌*◌, ◌%◌, ◌^◌, ◌<◌, ℕ, arith, ap, subst, sym, ◌∙◌}
use Rattle.onfi_addr.proofs.RowLemmas.{shifted_whole, shifted_lt}
use Rattle.onfi_addr.proofs.bits.shift_up.Goals as goal

pub returns-clause-value : goal.returns-clause-value
returns-clause-value c =
    let small : c.args.number < 2 ^ 16 = omega (arith, c.ranges.number.fits) in
    ap (λ n. n * 2 ^ c.args.bits % 2 ^ 64) c.from.ensures
    ∙ shifted_whole c.args.number 16 c.args.bits small (omega arith)

pub returns-clause-below : goal.returns-clause-below
returns-clause-below c =
    let small : c.args.number < 2 ^ 16 = omega (arith, c.ranges.number.fits) in
    let whole : c.from.result * 2 ^ c.args.bits % 2 ^ 64 ≡ c.args.number * 2 ^ c.args.bits =
    ap (λ n. n * 2 ^ c.args.bits % 2 ^ 64) c.from.ensures
    ∙ shifted_whole c.args.number 16 c.args.bits small (omega arith) in
    subst (λ (n : ℕ). n < 2 ^ 60) (sym whole) (shifted_lt c.args.number 16 c.args.bits 60 small (omega arith))
