-- What threads give back.
use Rattle.std.specs.Prelude.{◌≡◌, ℕ, Bool, false, List}
use Rattle.std.specs.List.{list_any}
use Rattle.std.specs.Option.{is_some}
use Rattle.onfi_script.specs.declared.row.Row.{Row}
use Rattle.onfi_run.specs.declared.port.Port.{Port}
use Rattle.onfi_run.specs.declared.threads.Worker.{Worker}
use Rattle.onfi_run.specs.declared.threads.Worker.TheVariants.{AtWork, Unused}
use Rattle.onfi_run.specs.Keys.{HasSamePorts}
use Rattle.onfi_run.specs.Operations.{operation_of}

-- a row is an operation of that host
abbrev pub is_used : List Row → ℕ → Bool
is_used rows host = list_any (λ row. is_some (operation_of host row)) rows

-- the host gives these ports back, and is at work unless no operation is its own
abbrev pub IsWorkerOf : List Row → ℕ → List Port → Worker → Type 0
IsWorkerOf rows host ports (AtWork handle) = HasSamePorts ports handle.promise.was.value.ports.items
IsWorkerOf rows host ports (Unused station) = HasSamePorts ports station.ports.items × (is_used rows host ≡ false)
