-- What hosts do at a moment of a run with a clock.
use Rattle.std.specs.Prelude.{◌≡◌, ◌⊎◌, ℕ, Bool, true, List, Some, None, set, slice_get, take}
use Rattle.std.specs.List.{AllZip}
use Rattle.onfi_addr.specs.declared.geometry.Geometry.{Geometry}
use Rattle.onfi_request.specs.declared.request.Request.{Request}
use Rattle.onfi_script.specs.declared.row.Row.{Row}
use Rattle.onfi_run.specs.declared.completion.Completion.{Completion}
use Rattle.onfi_run.specs.declared.port.Port.{Port}
use Rattle.onfi_run.specs.declared.station.Station.{Station}
use Rattle.onfi_run.specs.Arriving.{HaveCome}
use Rattle.onfi_run.specs.Keys.{HasSamePorts, LeavesOut, Submits}
use Rattle.onfi_run.specs.Sending.{HasSent}

-- where there is a port on that channel it went so, and else nothing did
pub data OnPort (went : Port → Port → Type 0) (channel : ℕ) (old new : List Port) : Type 0 where
  is_there : (p q : Port) → slice_get old channel ≡ Some p → went p q → new ≡ set old channel q → OnPort went channel old new
  is_absent : slice_get old channel ≡ None → new ≡ old → OnPort went channel old new

-- an operation was made at that moment: its request was submitted or left out; or it was left out since memory was refused, which the host keeps
pub data Makes (now channel : ℕ) (request : Request) (has_ended : Bool) (old new : Station) : Type 0 where
  is_submitted : OnPort (Submits now request has_ended) channel old.ports.items new.ports.items → new.short_of_memory ≡ old.short_of_memory
      → Makes now channel request has_ended old new
  is_short : OnPort LeavesOut channel old.ports.items new.ports.items → new.short_of_memory ≡ true → Makes now channel request has_ended old new

-- ---- moments
-- that moment, or one that was given for the operation before
abbrev pub IsMoment : ℕ → Completion → ℕ → Type 0
IsMoment now c m = (m ≡ now) ⊎ ((m ≡ c.sent) ⊎ (m ≡ c.at))

-- what is said of an operation changed at that moment, if it did
pub record ChangedAt (now : ℕ) (old new : Completion) : Type 0 where
  pub sent : IsMoment now old new.sent
  pub at : IsMoment now old new.at

-- .. of all operations of a host
abbrev pub AtMoment : ℕ → List Port → List Port → Type 0
AtMoment now old new = AllZip (λ (p q : Port). AllZip (ChangedAt now) p.answers q.answers) old new

-- .. of all hosts
abbrev pub AllAtMoment : ℕ → List Station → List Station → Type 0
AllAtMoment now old new = AllZip (λ (s t : Station). AtMoment now s.ports.items t.ports.items) old new

-- ---- a host
-- What a host does at a moment, which takes it past some of its rows: it keeps its number and its ends; what it sent are the first of the operations in the rows
-- that it passed; the moments of arrival that these give have come; and what is said of operations changed at that moment.
pub record Acts (geometry : Geometry) (rows : List Row) (now : ℕ) (old new : Station) : Type 0 where
  pub number : new.number ≡ old.number
  pub same : HasSamePorts old.ports.items new.ports.items
  pub sent : HasSent geometry (take old.passed rows) old.number old.ports.items → HasSent geometry (take new.passed rows) old.number new.ports.items
  pub come : HaveCome now (take old.passed rows) → HaveCome now (take new.passed rows)
  pub moments : AtMoment now old.ports.items new.ports.items
