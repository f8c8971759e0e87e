use Rattle.std.proofs.Common.{sym, ap, ◌∙◌}
use Rattle.onfi_timing.specs.Kinds.{operation_of}
use Rattle.onfi_request.specs.Parts.{bytes_out}
use Rattle.onfi_chip.proofs.sim.SimChipChip.data_out.Goals as goal

pub put_out-requires : goal.put_out-requires
put_out-requires c =
    let (post, left, next, whole) = c.requires.next in
    record { next = (post, left, next, ap operation_of whole, c.requires.room ∙ sym (ap (bytes_out c.args.self.now.dies.geometry) whole)) }
