use Rattle.std.proofs.Common.{◌≡◌, ◌*◌, ◌+◌, ◌-◌, ◌<◌, ap, sym, ◌∙◌, lit<, arith, zero-add}
use Rattle.std.specs.Int.Bits.{bit_xor}
use Rattle.std.proofs.lemmas.Nat.{xor_block}
use Rattle.onfi_param.specs.Crc.{polynomial}
use Rattle.onfi_param.proofs.Division.{reduced_high}
use Rattle.onfi_param.proofs.crc.shift_register.Goals as goal

pub returns-else-register-lt32768 : goal.returns-else-register-lt32768
returns-else-register-lt32768 c =
    let low : (c.args.register - 32768) * 2 < 65536 = omega (arith, c.ranges.register.fits) in
    let split : c.args.register * 2 ≡ 1 * 65536 + (c.args.register - 32768) * 2 = omega arith in
    sym (
    reduced_high (c.args.register * 2) (omega arith)
    ∙ ap (λ n. bit_xor n polynomial) split
    ∙ xor_block 16 1 1 ((c.args.register - 32768) * 2) 32773 low (lit< tt)
    ∙ zero-add _
    )
