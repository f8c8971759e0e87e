-- What is said that is in order, and far from the end of the clock.
use Rattle.std.specs.Prelude.{ℕ, ◌+◌, ◌<◌, ◌≤◌, ◌==◌, ◌^◌, [], ◌∷◌, nat_le, nat_lt, not, Bool, List, Option, Some, None, ◌&&◌, ◌||◌}
use Rattle.std.specs.List.{AllByRecursion as Each, list_any}
use Rattle.onfi_timing.specs.declared.timing.Timing.{Timing}
use Rattle.onfi_group.specs.declared.rules.Rules.{Rules}
use Rattle.onfi_problem.specs.Kept.{problem_of}
use Rattle.onfi_problem.specs.Problem.{Problem}
use Rattle.onfi_flight.specs.Flight.{Flight}
use Rattle.onfi_flight.specs.Turns.{IsTurn}
use Rattle.onfi_flight.specs.declared.turn.Start.{Start as FlightStart}
use Rattle.onfi_flight.specs.declared.turn.Turn.{Turn}
use Rattle.onfi_flight.specs.declared.turn.Turn.TheVariants as turn
use Rattle.onfi_calls.specs.declared.least.Least.{Least}
use Rattle.onfi_calls.specs.declared.least.Least.TheVariants as least
use Rattle.onfi_calls.specs.declared.least.Start.{Start}
use Rattle.onfi_calls.specs.declared.channel.PlainLun.{PlainLun}
use Rattle.onfi_calls.specs.declared.channel.PlainWant.{PlainWant}
use Rattle.onfi_calls.specs.declared.schedule.PlainGroup.{PlainGroup}
use Rattle.onfi_calls.specs.declared.schedule.PlainRest.{PlainRest}
use Rattle.onfi_calls.specs.declared.schedule.PlainSchedule.{PlainSchedule}
use Rattle.onfi_calls.specs.Problem.{operation_in, states_of, wants_of}
use Rattle.onfi_calls.specs.ReadSchedule.{groups_of, rest_of, rests_of, schedule_of, starts_of}

-- numbers rise from `floor` on, and stay below that one
abbrev pub RiseFrom : ℕ → ℕ → List PlainWant → Type 0
RiseFrom floor below [] = Unit {0}
RiseFrom floor below (w ∷ wants) = (floor ≤ w.id) × (w.id < below) × RiseFrom (w.id + 1) below wants

-- an erase that names a page
abbrev pub has_page : PlainWant → Bool
has_page w = nat_lt 1 (operation_in w.kind) && not (w.page == 0)

-- of a LUN that isn't there
abbrev pub is_foreign : ℕ → PlainWant → Bool
is_foreign luns w = nat_le luns w.lun

-- no LUN is ready in the later half of the clock, 2^61 ns or later
abbrev pub AreEarly : List PlainLun → Type 0
AreEarly luns = Each (λ lun. lun.since < 2 ^ 61) luns

-- a start in the later half of the clock
abbrev pub is_half : ℕ → Bool
is_half start = nat_le (2 ^ 61) start

-- more starts than there are places, or one that is
abbrev pub is_odd_rest : PlainRest → Bool
is_odd_rest rest = nat_lt 8 rest.starts || list_any is_half (rest_of rest)

-- no member or more than there are places, or a start that is
abbrev pub is_odd_group : PlainGroup → Bool
is_odd_group group = group.members == 0 || (nat_lt 4 group.members || list_any is_half (starts_of group))

-- no schedule is said, or one that reaches the later half of the clock
abbrev pub is_odd_schedule : PlainSchedule → Bool
is_odd_schedule s = nat_lt 8 s.luns || (nat_lt 8 s.groups || (list_any is_odd_rest (rests_of s) || list_any is_odd_group (groups_of s)))

-- the problem that is said, with these lengths and rules
abbrev pub problem_said : Timing → Rules → ℕ → List PlainLun → List PlainWant → Problem
problem_said timing rules bus_free luns wants = problem_of timing rules bus_free (states_of rules.plane_bits luns) (wants_of rules.plane_bits wants)

-- .. and what is left of the schedule that is said of it
abbrev pub flight_of : Timing → Rules → ℕ → List PlainLun → List PlainWant → PlainSchedule → Flight
flight_of timing rules bus_free luns wants schedule = record {
  now = problem_said timing rules bus_free luns wants;
  left = schedule_of (wants_of rules.plane_bits wants) schedule;
}

-- where a start stands, as flights have it
abbrev pub start_of : Start → FlightStart
start_of s = record { at = s.at; time = s.time }

abbrev pub some_start : Option Start → Option FlightStart
some_start None = None
some_start (Some s) = Some (start_of s)

abbrev pub turn_of : Least → Turn
turn_of (least.Next s) = turn.Next (start_of s)
turn_of (least.First s) = turn.First (start_of s)

-- the new group that stands there has the least start
abbrev pub IsFirst : Flight → Start → Type 0
IsFirst f first = IsTurn f.left.rest f.left.groups (turn.First (start_of first))
