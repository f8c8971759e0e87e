use Rattle.std.proofs.Common.{◌≡◌, Ok, Err, Some, sym, subst, refl}
use Rattle.onfi_script.specs.Device.{TellsChips}
use Rattle.onfi_script.specs.Stop.{IfFault}
use Rattle.onfi_run.specs.Prepared.{first_refused}
use Rattle.onfi_run.specs.Prepares.{has_no_device, has_wrong_row}
use Rattle.onfi_run.specs.Setup.{channels_in, hosts_in}
use Rattle.onfi_run.proofs.preparing.prepare_for.Goals as goal

pub returns-in-Ok-Some : goal.returns-in-Ok-Some
returns-in-Ok-Some c =
    let device = c.in-Ok.device.chips in
    let refusal = c.in-Ok-Some.refusal in
    let told = rw c.in-Ok-Some.field-0-is at c.in-Ok-Some.ensures in
    has_wrong_row c.in_ok-rows.rows.items device c.in_ok-rows.ensures (subst (λ l. TellsChips l (Ok device)) c.as_slice.ensures.value c.in-Ok.ensures)
    (subst (λ l. first_refused (channels_in l) (hosts_in l) device.geometry 1 l ≡ Some refusal) c.as_slice-in-Ok.ensures.value (sym told))

pub returns-in-Err-Fault : goal.returns-in-Err-Fault
returns-in-Err-Fault c =
    let fault = c.in-Err-Fault.fault in
    let told = subst (λ s. IfFault s (λ f. TellsChips c.as_slice.result.now (Err f))) c.in-Err-Fault.field-0-is c.in-Err-Fault.ensures in
    rw c.in-Err-Fault.fault-is (has_no_device c.in_ok-rows.rows.items fault c.in_ok-rows.ensures (subst (λ l. TellsChips l (Err fault)) c.as_slice.ensures.value told) refl)
