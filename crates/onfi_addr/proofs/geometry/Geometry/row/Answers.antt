use Rattle.std.proofs.Common.{◌+◌, ◌*◌, ◌^◌, ap, ◌∙◌}
use Rattle.onfi_addr.proofs.RowLemmas.{row_fits}
use Rattle.onfi_addr.proofs.geometry.Geometry.row.Goals as goal

pub returns-clause-fits : goal.returns-clause-fits
returns-clause-fits c = λ there.
    let lun = c.shift_up-lun.ensures.value ∙ ap (λ n. n * 2 ^ (c.args.self.now.page_bits + c.args.self.now.block_bits)) c.from.ensures in
    rw (c.from-2.ensures, c.shift_up-block.ensures.value, lun) (row_fits c.args.self.now c.args.place.now there)
