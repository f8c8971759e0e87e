use Rattle.std.proofs.Common.{arith}
use Rattle.onfi_addr.proofs.BitCounts.{bit_count}
use Rattle.onfi_samples.proofs.device.sample_geometry.Goals as goal

-- each count is above half a power of two, and not above the power
pub invariant_of-result-clause-least_page_bits : goal.invariant_of-result-clause-least_page_bits
invariant_of-result-clause-least_page_bits c = bit_count 64 5 (omega arith) (omega arith) (omega arith)

pub invariant_of-result-clause-least_block_bits : goal.invariant_of-result-clause-least_block_bits
invariant_of-result-clause-least_block_bits c = bit_count 1000 9 (omega arith) (omega arith) (omega arith)

pub invariant_of-result-clause-least_lun_bits : goal.invariant_of-result-clause-least_lun_bits
invariant_of-result-clause-least_lun_bits c = bit_count 2 0 (omega arith) (omega arith) (omega arith)
