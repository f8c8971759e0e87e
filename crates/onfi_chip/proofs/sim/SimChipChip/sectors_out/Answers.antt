use Rattle.onfi_chip.proofs.Parts.{is_sector_read}
use Rattle.onfi_chip.proofs.sim.SimChipChip.sectors_out.Goals as goal

pub put_out-requires : goal.put_out-requires
put_out-requires c =
    let (post, left, next, output) = c.requires.next in
    record { next = (post, left, next, is_sector_read post.kind output.sectors, output.bytes_are) }
