use Rattle.std.proofs.Common.{arith}
use Rattle.std.proofs.lemmas.List.{length-take}
use Rattle.onfi_param.specs.Fields.{stored_crc, two_bytes}
use Rattle.onfi_param.proofs.CopyLemmas.{checks}
use Rattle.onfi_param.proofs.reading.is_copy.Goals as goal

pub returns : goal.returns
unfolding stored_crc two_bytes
returns c =
    checks c.args.copy.now c.crc16.result c.from_le_bytes.result c.requires (omega arith) c.crc16.ensures.remainder
    (omega (arith, c.from_le_bytes.ensures))

pub slice_bounds-crc16-end : goal.slice_bounds-crc16-end
slice_bounds-crc16-end c = omega (arith, c.requires, length-take 254 c.args.copy.now)
