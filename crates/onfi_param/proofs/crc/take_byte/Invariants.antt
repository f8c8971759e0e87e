use Rattle.std.proofs.Common.{◌≡◌, ◌-◌}
use Rattle.onfi_param.specs.Register.{idle, after_byte}
use Rattle.onfi_param.proofs.crc.take_byte.Given as goal

abbrev pub invariant-loop : goal.invariant-loop
invariant-loop l = idle l.next (8 - l.counter) ≡ after_byte l.fn.register l.fn.byte
