use Rattle.std.proofs.Common.{◌≡◌, ◌+◌, ◌-◌, suc, ap, sym, ◌∙◌, arith}
use Rattle.onfi_param.specs.Register.{idle}
use Rattle.onfi_param.proofs.crc.take_byte.Goals as goal

pub loop-preserved : goal.loop-preserved
unfolding idle
loop-preserved c =
    let next : 8 - c.loop.counter ≡ suc (8 - (c.loop.counter + 1)) = omega arith in
    ap (λ n. idle n (8 - (c.loop.counter + 1))) c.shift_register-next.ensures
    ∙ sym (ap (idle c.loop.next) next) ∙ c.loop.invariant

pub returns : goal.returns
unfolding idle
returns c =
    let none : 8 - c.loop.counter ≡ 0 = omega arith in
    sym (ap (idle c.loop.next) none) ∙ c.loop.invariant
