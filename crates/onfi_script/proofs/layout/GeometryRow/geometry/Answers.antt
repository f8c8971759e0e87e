use Rattle.std.proofs.Common.{arith}
use Rattle.onfi_script.proofs.layout.GeometryRow.geometry.Goals as goal

pub invariant_of-result-clause-few_page_bits : goal.invariant_of-result-clause-few_page_bits
invariant_of-result-clause-few_page_bits c = c.bits_for.ensures.least.least 12 (omega arith)

pub invariant_of-result-clause-few_block_bits : goal.invariant_of-result-clause-few_block_bits
invariant_of-result-clause-few_block_bits c = c.bits_for-2.ensures.least.least 16 (omega arith)

pub invariant_of-result-clause-few_lun_bits : goal.invariant_of-result-clause-few_lun_bits
invariant_of-result-clause-few_lun_bits c = c.bits_for-3.ensures.least.least 3 (omega arith)

pub invariant_of-result-clause-rows_fit : goal.invariant_of-result-clause-rows_fit
invariant_of-result-clause-rows_fit c =
    let pages = c.bits_for.ensures.least.least 12 (omega arith) in
    let blocks = c.bits_for-2.ensures.least.least 16 (omega arith) in
    let luns = c.bits_for-3.ensures.least.least 3 (omega arith) in
    omega (arith, pages, blocks, luns)
