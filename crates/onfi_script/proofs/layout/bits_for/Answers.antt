use Rattle.std.proofs.Common.{arith}
use Rattle.onfi_addr.proofs.BitCounts.{bit_count}
use Rattle.onfi_script.proofs.layout.bits_for.Goals as goal

pub returns-else-count-lt2-clause-least : goal.returns-else-count-lt2-clause-least
returns-else-count-lt2-clause-least c =
    bit_count c.args.count c.ilog2.result (omega arith) c.ilog2.ensures.power_le c.ilog2.ensures.next_power_gt
