-- The operations of a host on a channel, in the order of their rows.
use Rattle.std.specs.Prelude.{ℕ, ◌==◌, if◌then◌else◌, List, filter_map, Option, Some, None}
use Rattle.std.specs.Option.{option_map}
use Rattle.onfi_addr.specs.declared.geometry.Geometry.{Geometry}
use Rattle.onfi_request.specs.declared.request.Request.{Request}
use Rattle.onfi_timing.specs.declared.kind.Kind.{Kind}
use Rattle.onfi_script.specs.declared.operation.Operation.{Operation}
use Rattle.onfi_script.specs.declared.row.Row.{Row}
use Rattle.onfi_script.specs.declared.row.Row.TheVariants.{Op}
use Rattle.onfi_run.specs.Requests.{request_of}

-- the operation of a row, where it is one of that host
abbrev pub operation_of : ℕ → Row → Option Operation
operation_of host (Op op) = if op.aim.host == host then Some op else None
operation_of host _ = None

-- .. on that channel
abbrev pub on_channel : ℕ → Option Operation → Option Operation
on_channel channel None = None
on_channel channel (Some op) = if op.aim.channel == channel then Some op else None

abbrev pub operation_in : ℕ → ℕ → Row → Option Operation
operation_in host channel row = on_channel channel (operation_of host row)

-- its kind
abbrev pub kind_in : ℕ → ℕ → Row → Option Kind
kind_in host channel row = option_map (λ (op : Operation). op.aim.kind) (operation_in host channel row)

-- its request
abbrev pub request_in : Geometry → ℕ → ℕ → Row → Option Request
request_in geometry host channel row = option_map (request_of geometry) (operation_in host channel row)

abbrev pub requests_on : Geometry → List Row → ℕ → ℕ → List Request
requests_on geometry rows host channel = filter_map (request_in geometry host channel) rows
