-- What stays legal of what is left.
use Rattle.std.specs.Prelude.{ℕ, ◌≤◌}
use Rattle.onfi_timing.specs.declared.timing.Timing.{Timing}
use Rattle.onfi_group.specs.declared.rules.Rules.{Rules}
use Rattle.onfi_flight.specs.declared.due.Due.{Due}
use Rattle.onfi_flight.specs.Flight.{Flight, IsDue, IsFlight, after_due, after_late, idle, readied, waited}

abbrev pub IdleStays : Type 0
IdleStays = (timing : Timing) (rules : Rules) (bus_free luns : ℕ) → IsFlight (idle timing rules bus_free luns)

abbrev pub DoneStays : Type 0
DoneStays = (f : Flight) (due : Due) → IsFlight f → IsDue f due → IsFlight (after_due f due)

abbrev pub LateStays : Type 0
LateStays = (f : Flight) (due : Due) (started : ℕ) → IsFlight f → IsDue f due → due.start ≤ started → IsFlight (after_late f due started)

abbrev pub WaitStays : Type 0
WaitStays = (f : Flight) (moment : ℕ) → IsFlight f → IsFlight (waited moment f)

abbrev pub ReadyStays : Type 0
ReadyStays = (f : Flight) (lun moment : ℕ) → IsFlight f → IsFlight (readied lun moment f)
