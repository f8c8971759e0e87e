use Rattle.std.proofs.Common.{arith, ap, sym, ◌∙◌, Some}
use Rattle.onfi_addr.proofs.RowLemmas.{fields_of, packed_again, place_is}
use Rattle.onfi_addr.proofs.geometry.Geometry.unrow.Goals as goal
use Rattle.onfi_addr.proofs.geometry.Geometry.unrow.Goals.{then-lun-from-via-then-lun-from, then-lun-from-via-else-lun-from+then-block-from, then-lun-from-via-else-lun-from+else-block-from+then-page-from}

pub returns-clause-found : goal.returns-clause-found
returns-clause-found c = (
  record { lun_there = omega arith; block_there = omega arith; page_there = omega arith },
  rw (c.low_bits-page.ensures, c.low_bits-block.ensures) (packed_again c.args.self.now.page_bits c.args.self.now.block_bits c.args.row),
)

pub returns-then-lun-from-clause-none : goal.returns-then-lun-from-clause-none
returns-then-lun-from-clause-none c = λ place there same.
    let fields = fields_of c.args.self.now c.args.row place there same in
    elim c.then-lun-from.branch [
      | then-lun-from-via-then-lun-from w ↦ omega arith
      | then-lun-from-via-else-lun-from+then-block-from w ↦ omega arith
      | then-lun-from-via-else-lun-from+else-block-from+then-page-from w ↦ omega arith
    ]

pub returns-then-lun-from-clause-undone : goal.returns-then-lun-from-clause-undone
returns-then-lun-from-clause-undone c = λ place there same. absurd (returns-then-lun-from-clause-none c place there same)

pub returns-clause-undone : goal.returns-clause-undone
returns-clause-undone c = λ place there same.
    let fields = fields_of c.args.self.now c.args.row place there same in
    ap Some (place_is place _ c.low_bits-block.result c.low_bits-page.result (sym fields.lun_is)
    (c.low_bits-block.ensures ∙ sym fields.block_is) (c.low_bits-page.ensures ∙ sym fields.page_is))
