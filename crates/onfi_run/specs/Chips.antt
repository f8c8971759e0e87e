-- What the rows of a run say of a channel's chip.
use Rattle.std.specs.Prelude.{ℕ, ◌==◌, if◌then◌else◌, List, Option, Some, None, filter_map}
use Rattle.onfi_request.specs.declared.fault.Fault.{Fault as FaultOf}
use Rattle.onfi_chip.specs.declared.array_time.ArrayTime.{ArrayTime}
use Rattle.onfi_script.specs.declared.row.Row.{Row}
use Rattle.onfi_script.specs.declared.row.Row.TheVariants.{Fault, ChipFail, NotReady, Array}

-- a fault of that channel's chip
abbrev pub fault_on : ℕ → Row → Option FaultOf
fault_on channel (Fault on fault) = if on == channel then Some fault else None
fault_on channel _ = None

-- a call of it that fails
abbrev pub failing_on : ℕ → Row → Option ℕ
failing_on channel (ChipFail on number) = if on == channel then Some number else None
failing_on channel _ = None

-- a status call of it that says that a LUN isn't ready
abbrev pub unready_on : ℕ → Row → Option ℕ
unready_on channel (NotReady on number) = if on == channel then Some number else None
unready_on channel _ = None

-- how long an operation of an array of it really takes
abbrev pub array_time_on : ℕ → Row → Option ArrayTime
array_time_on channel (Array on lun number length) = if on == channel then Some (record { lun = lun; number = number; length = length }) else None
array_time_on channel _ = None

-- all that rows give by such a reading of one, in their order
abbrev pub all_on : {X : Type 0} → (Row → Option X) → List Row → List X
all_on read rows = filter_map read rows
