use Rattle.std.proofs.Common.{◌≤◌, length, rules}
use Rattle.onfi_calls.proofs.Devices.{has_strobes}
use Rattle.onfi_calls.proofs.device_of_page.read_device.Goals as goal

pub returns-else-is_empty-clause-device : goal.returns-else-is_empty-clause-device
returns-else-is_empty-clause-device c =
    let some : 1 ≤ length c.args.rows.now = search rules in
    has_strobes c.args.bytes.now c.args.text.now c.args.rows.now c.args.sector_bytes c.strobe_device.result some c.strobe_device.ensures.device
