use Rattle.std.proofs.Common.{◌≡◌, ◌≤◌, ◌*◌, ◌%◌, ◌^◌, arith}
use Rattle.std.proofs.Math.Pow.{pow_mono}
use Rattle.onfi_calls.proofs.Geometries.{bit_count_test}
use Rattle.onfi_calls.proofs.geometry.is_bit_count.Goals as goal

pub returns-else-bits-eq0 : goal.returns-else-bits-eq0
returns-else-bits-eq0 c =
    let small : 2 ^ c.args.bits ≤ 2 ^ 16 = pow_mono c.requires in
    let same : 1 * 2 ^ c.args.bits % 4294967296 ≡ 2 ^ c.args.bits = omega (arith, small) in
    bit_count_test c.args.count c.args.bits c.requires (omega (arith, same, c.if-count-bits.true)) (omega (arith, c.if-bits-eq0.false))
