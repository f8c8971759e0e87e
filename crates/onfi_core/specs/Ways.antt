-- How a half goes on, as its fields keep it, and what is done to it.
use Rattle.std.specs.Prelude.{◌≡◌, ℕ, max, [], replicate, Option, None, Some, slice_get}
use Rattle.onfi_request.specs.declared.want.Want.{Want}
use Rattle.onfi_timing.specs.declared.timing.Timing.{Timing}
use Rattle.onfi_group.specs.declared.rules.Rules.{Rules}
use Rattle.onfi_problem.specs.declared.lun_state.LunState.TheVariants.{Free}
use Rattle.onfi_problem.specs.Moves.{placed}
use Rattle.onfi_flight.specs.declared.due.Due.{Due}
use Rattle.onfi_flight.specs.Flight.{Flight, IsFlight, luns_ready_by, move_of}
use Rattle.onfi_steady.specs.Dispatcher.{IsOf, states_of}
use Rattle.onfi_steady.specs.Waiting.{Books, channel}
use Rattle.onfi_core.specs.declared.way.By.{By}
use Rattle.onfi_core.specs.declared.way.By.TheVariants as by
use Rattle.onfi_core.specs.declared.way.books.BooksWay.{BooksWay}
use Rattle.onfi_core.specs.Dues.{left_by}
use Rattle.onfi_core.specs.Kept.{IsInTime}
use Rattle.onfi_core.specs.State.{Way}
use Rattle.onfi_core.specs.Steps.{books_after, books_with, left_waited, wants_with}

-- by its books it is the channel of these: nothing is planned
abbrev pub books_way : BooksWay → Way
books_way b = record {
  now = channel b.timing b.dispatcher.value.bus_free (states_of b.dispatcher.value) b.known.books;
  left = record { rest = []; groups = [] };
  books = Some b.known.books;
}

abbrev pub way_in : By → Way
way_in (by.Plan flight) = record { now = flight.now; left = flight.left; books = None }
way_in (by.Books b) = books_way b

-- the dispatcher is that of the books
abbrev pub AreBooks : BooksWay → Type 0
AreBooks b = IsOf b.timing b.known.books b.dispatcher.value

abbrev pub IsWay : By → Type 0
IsWay (by.Plan flight) = Unit {0}
IsWay (by.Books b) = AreBooks b

abbrev pub flight_in : Way → Flight
flight_in w = record { now = w.now; left = w.left }

-- what is left of a plan is legal
abbrev pub IsFlownBy : Option Books → Flight → Type 0
IsFlownBy None f = IsFlight f
IsFlownBy (Some books) f = Unit {0}

abbrev pub IsFlown : Way → Type 0
IsFlown w = IsFlownBy w.books (flight_in w)

-- .. or bus and LUNs are free in time
abbrev pub IsOnTimeBy : Option Books → Flight → Type 0
IsOnTimeBy None f = Unit {0}
IsOnTimeBy (Some books) f = IsInTime f.now

abbrev pub IsOnTime : Way → Type 0
IsOnTime w = IsOnTimeBy w.books (flight_in w)

-- a request more is accepted
abbrev pub way_with : Want → Way → Way
way_with x w = record { now = record w.now { wants = wants_with w.books x w.now.wants }; left = w.left; books = books_with w.books x }

-- the due phase ran
abbrev pub way_after : Due → Way → Way
way_after due w = record { now = placed w.now (move_of due) due.start; left = left_by w.books w.left due; books = books_after w.books (move_of due) }

-- the bus waited
abbrev pub way_waited : ℕ → Way → Way
way_waited moment w = record { now = record w.now { bus_free = max w.now.bus_free moment }; left = left_waited w.books moment (flight_in w); books = w.books }

-- the LUN was ready
abbrev pub way_ready : ℕ → ℕ → Way → Way
way_ready lun moment w = record { now = record w.now { luns = luns_ready_by moment lun (slice_get w.now.luns lun) w.now.luns }; left = w.left; books = w.books }

-- as it opens
pub record IsOpened (timing : Timing) (rules : Rules) (luns : ℕ) (b : BooksWay) : Type 0 where
  pub timing_is : b.timing ≡ timing
  pub books_are : b.known.books ≡ record { rules = rules; waiting = []; newest = None }
  pub bus : b.dispatcher.value.bus_free ≡ 0
  pub luns_are : states_of b.dispatcher.value ≡ replicate luns (Free 0)
