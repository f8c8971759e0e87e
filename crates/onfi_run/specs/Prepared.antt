-- Why the rows of a run are refused once their device is known.
use Rattle.std.specs.Prelude.{ℕ, ◌+◌, ◌&&◌, nat_le, nat_lt, if◌then◌else◌, Bool, List, [], ◌∷◌, Option, Some, None}
use Rattle.onfi_addr.specs.declared.geometry.Geometry.{Geometry}
use Rattle.onfi_addr.specs.Rows.{page_bytes_of}
use Rattle.onfi_request.specs.declared.checking.RequestFault.{RequestFault}
use Rattle.onfi_core.specs.Steps.{fault_of}
use Rattle.onfi_script.specs.declared.fault.Refusal.{Refusal}
use Rattle.onfi_script.specs.declared.fault.ScriptFault.{ScriptFault}
use Rattle.onfi_script.specs.declared.fault.ScriptFault.TheVariants.{OutOfRange, Request}
use Rattle.onfi_script.specs.declared.operation.Operation.{Operation}
use Rattle.onfi_script.specs.declared.row.Row.{Row}
use Rattle.onfi_script.specs.declared.row.Row.TheVariants.{Op, Fault, ChipFail, NotReady, Array, Sector}
use Rattle.onfi_request.specs.declared.fault.Fault.{Fault as FaultOf}
use Rattle.onfi_run.specs.Requests.{request_of}

-- out of range, unless this holds
abbrev pub unless_there : Bool → Option ScriptFault
unless_there there = if there then None else Some OutOfRange

-- why the device doesn't take a request
abbrev pub of_request : Option RequestFault → Option ScriptFault
of_request None = None
of_request (Some fault) = Some (Request fault)

-- an operation of a host and on a channel that are there, which the device takes
abbrev pub op_fault : ℕ → ℕ → Geometry → Operation → Option ScriptFault
op_fault channels hosts geometry op =
    if nat_lt op.aim.host hosts && nat_lt op.aim.channel channels then of_request (fault_of geometry (request_of geometry op)) else Some OutOfRange

-- a fault of a block that is there
abbrev pub is_block : Geometry → FaultOf → Bool
is_block geometry fault = nat_lt fault.lun geometry.lun_count && nat_lt fault.block geometry.blocks_per_lun

-- what is wrong with a row, given how many channels and hosts there are
abbrev pub row_fault : ℕ → ℕ → Geometry → Row → Option ScriptFault
row_fault channels hosts geometry (Op op) = op_fault channels hosts geometry op
row_fault channels hosts geometry (Fault channel fault) = unless_there (nat_lt channel channels && is_block geometry fault)
row_fault channels hosts geometry (ChipFail channel number) = unless_there (nat_lt channel channels)
row_fault channels hosts geometry (NotReady channel number) = unless_there (nat_lt channel channels)
row_fault channels hosts geometry (Array channel lun number length) = unless_there (nat_lt channel channels && nat_lt lun geometry.lun_count)
row_fault channels hosts geometry (Sector bytes) = unless_there (nat_le bytes (page_bytes_of geometry))
row_fault channels hosts geometry _ = None

-- the fault reported of this row, or else what is wrong with the later ones
abbrev pub or_later : ℕ → Option ScriptFault → Option Refusal → Option Refusal
or_later row (Some fault) later = Some (record { row = row; fault = fault })
or_later row None later = later

-- the first of the rows with which something is wrong; they are numbered from `row` on
unfoldable pub first_refused : ℕ → ℕ → Geometry → ℕ → List Row → Option Refusal
first_refused channels hosts geometry row [] = None
first_refused channels hosts geometry row (r ∷ rows) = or_later row (row_fault channels hosts geometry r) (first_refused channels hosts geometry (row + 1) rows)
