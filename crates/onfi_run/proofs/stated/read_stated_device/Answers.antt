use Rattle.onfi_run.proofs.SectorLengths.{chips_stated}
use Rattle.onfi_run.proofs.stated.read_stated_device.Goals as goal

pub invariant_of-result : goal.invariant_of-result
invariant_of-result c = record { stated = chips_stated c.args.rows.now c.in_ok-chips.chips c.in_ok-chips.ensures }
