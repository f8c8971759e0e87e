use Rattle.std.proofs.Common.{◌≡◌, drop}
use Rattle.onfi_param.proofs.Division.{after_bytes}
use Rattle.onfi_param.proofs.crc.crc16.Given as goal

abbrev pub invariant-loop-byte : goal.invariant-loop-byte
invariant-loop-byte l = after_bytes l.register (drop l.byte-index l.bytes) ≡ after_bytes 0x4F4E l.bytes
