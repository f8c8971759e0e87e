-- Where nothing can be done at a moment of a run with a clock.
use Rattle.std.specs.Prelude.{◌≡◌, ℕ, ◌<◌, ◌≤◌, Bool, true, false, List, [], length, Some, slice_get}
use Rattle.std.specs.List.{AllByRecursion as Each}
use Rattle.std.specs.Option.{option_map, unwrap_or}
use Rattle.onfi_queue.specs.Ends.{SawFull}
use Rattle.onfi_reply.specs.Ends.{SawEmpty}
use Rattle.onfi_script.specs.declared.operation.Operation.{Operation}
use Rattle.onfi_script.specs.declared.row.Row.{Row}
use Rattle.onfi_run.specs.declared.pace.Pace.{Pace}
use Rattle.onfi_run.specs.declared.port.Port.{Port}
use Rattle.onfi_run.specs.declared.station.Station.{Station}
use Rattle.onfi_run.specs.Arriving.{comes_at}
use Rattle.onfi_run.specs.Operations.{operation_of}

-- its queue was full, and nothing was left out before
pub record IsFull (p : Port) : Type 0 where
  pub goes_on : p.left_out ≡ false
  pub full : SawFull p.host

-- .. of the port on that channel
pub record IsFullAt (ports : List Port) (channel : ℕ) : Type 0 where
  pub port : Port
  pub there : slice_get ports channel ≡ Some port
  pub full : IsFull port

-- nothing is left of what its inbox took in, and the queue was empty
pub record IsEmptied (p : Port) : Type 0 where
  pub waiting : p.inbox.waiting ≡ []
  pub empty : SawEmpty p.inbox

-- that channel makes no more turns, or there is none
abbrev pub has_ended : List Pace → ℕ → Bool
has_ended paces channel = unwrap_or (option_map (λ (p : Pace). p.has_ended) (slice_get paces channel)) true

-- .. as hosts see it
abbrev pub ends_by : List Pace → ℕ → Bool → Type 0
ends_by paces channel ended = has_ended paces channel ≡ ended

-- an operation there has to wait: the queue was full, and the channel goes on
pub record IsPutOff (ends : ℕ → Bool → Type 0) (ports : List Port) (channel : ℕ) : Type 0 where
  pub full : IsFullAt ports channel
  pub goes_on : ends channel false

-- at that moment the host of that number, past that many rows, goes past no other: it is past all, or before a moment of arrival that hasn't come, or before an
-- operation of its own that has to wait
pub data Stands (now : ℕ) (rows : List Row) (ends : ℕ → Bool → Type 0) (number passed : ℕ) (ports : List Port) : Type 0 where
  is_through : length rows ≤ passed → Stands now rows ends number passed ports
  is_early : now < comes_at rows passed → Stands now rows ends number passed ports
  is_before : (row : Row) (op : Operation) → slice_get rows passed ≡ Some row → operation_of number row ≡ Some op → IsPutOff ends ports op.aim.channel
      → Stands now rows ends number passed ports

-- .. and no reply came to it
pub record Rests (now : ℕ) (rows : List Row) (ends : ℕ → Bool → Type 0) (s : Station) : Type 0 where
  pub stands : Stands now rows ends s.number s.passed s.ports.items
  pub emptied : Each IsEmptied s.ports.items
