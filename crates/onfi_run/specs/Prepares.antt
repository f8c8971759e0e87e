-- What an input sets up, or why it is refused.
use Rattle.std.specs.Prelude.{◌≡◌, ℕ, List, Some, None, Ok, Err}
use Rattle.onfi_script.specs.declared.device.PageDevice.{PageDevice}
use Rattle.onfi_script.specs.declared.fault.Refusal.{Refusal}
use Rattle.onfi_script.specs.declared.fault.ScriptFault.{ScriptFault}
use Rattle.onfi_script.specs.declared.purpose.Purpose.{Purpose}
use Rattle.onfi_script.specs.declared.row.Row.{Row}
use Rattle.onfi_script.specs.Device.{TellsChips}
use Rattle.onfi_script.specs.Input.{TellsRows}
use Rattle.onfi_run.specs.Prepared.{first_refused}
use Rattle.onfi_run.specs.Setup.{channels_in, hosts_in}

-- for that purpose the input has these rows, which describe this device, and nothing is wrong with one
pub record IsPrepared (purpose : Purpose) (input : List ℕ) (rows : List Row) (device : PageDevice) : Type 0 where
  pub read : TellsRows purpose input (Ok rows)
  pub chips : TellsChips rows (Ok device)
  pub fine : first_refused (channels_in rows) (hosts_in rows) device.geometry 1 rows ≡ None

-- the input is refused for this: a row by itself, then the device, then the first row with which something is wrong there
pub data IsRefused (purpose : Purpose) (input : List ℕ) (refusal : Refusal) : Type 0 where
  is_misread : TellsRows purpose input (Err refusal) → IsRefused purpose input refusal
  has_no_device : (rows : List Row) (fault : ScriptFault) → TellsRows purpose input (Ok rows) → TellsChips rows (Err fault) → refusal ≡ record { row = 0; fault = fault } → IsRefused purpose input refusal
  has_wrong_row : (rows : List Row) (device : PageDevice) → TellsRows purpose input (Ok rows) → TellsChips rows (Ok device)
      → first_refused (channels_in rows) (hosts_in rows) device.geometry 1 rows ≡ Some refusal → IsRefused purpose input refusal
