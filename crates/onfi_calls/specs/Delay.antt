-- What stands after a phase, by the plain structs before it.
use Rattle.std.specs.Prelude.{◌≡◌, ◌==◌, ℕ, ◌+◌, ◌<◌, ◌≤◌, ◌^◌, not, false, List, length, map, remove, Option, Some, None}
use Rattle.std.specs.List.{filter, list_any}
use Rattle.onfi_timing.specs.declared.timing.Timing.{Timing}
use Rattle.onfi_timing.specs.Phases.{phase_length}
use Rattle.onfi_request.specs.declared.want.Want.{Want}
use Rattle.onfi_group.specs.declared.rules.Rules.{Rules}
use Rattle.onfi_group.specs.Group.{group_spans}
use Rattle.onfi_problem.specs.Left.{InLimits}
use Rattle.onfi_problem.specs.Moves.{lun_after}
use Rattle.onfi_schedule.specs.Schedule.{Schedule}
use Rattle.onfi_flight.specs.declared.due.Due.{Due}
use Rattle.onfi_flight.specs.Flight.{after_late}
use Rattle.onfi_flight.specs.Times.{later_group, later_starts}
use Rattle.onfi_calls.specs.declared.channel.PlainChannel.{PlainChannel}
use Rattle.onfi_calls.specs.declared.channel.PlainWant.{PlainWant}
use Rattle.onfi_calls.specs.declared.ran.Step.{Step}
use Rattle.onfi_calls.specs.declared.schedule.PlainGroup.{PlainGroup}
use Rattle.onfi_calls.specs.declared.schedule.PlainRest.{PlainRest}
use Rattle.onfi_calls.specs.declared.schedule.PlainSchedule.{PlainSchedule}
use Rattle.onfi_calls.specs.Flights.{IsFlightSaid}
use Rattle.onfi_calls.specs.InOrder.{flight_of, is_odd_schedule}
use Rattle.onfi_calls.specs.Problem.{luns_of}
use Rattle.onfi_calls.specs.Ran.{IsDueThere, lun_in, telling}
use Rattle.onfi_calls.specs.ReadSchedule.{group_of, rest_of}
use Rattle.onfi_calls.specs.PlainSchedule.{filled, no_rest, written_group, written_rest}

-- what is left of a running group, later by that much
abbrev pub later_rest : ℕ → PlainRest → PlainRest
later_rest by rest = written_rest (later_starts by (rest_of rest))

-- a new group of these wants, later by that much
abbrev pub later_said : ℕ → List Want → PlainGroup → PlainGroup
later_said by wants group = written_group (later_group by (group_of wants group))

-- the schedule of these wants that is said so
abbrev pub said_by : List Want → List PlainRest → List PlainGroup → Schedule
said_by wants rests groups = record { rest = map rest_of rests; groups = map (group_of wants) groups }

-- what is left of running groups in a schedule, later by that much
abbrev pub written_rests : ℕ → Schedule → List PlainRest
written_rests by s = filled 8 no_rest (map written_rest (map (later_starts by) s.rest))

-- all but the one at that place
abbrev pub others : {A : Type 0} → Option ℕ → List A → List A
others None xs = xs
others (Some at) xs = remove xs at

-- the wants that aren't in the group
abbrev pub plain_without : List Want → List PlainWant → List PlainWant
plain_without group wants = filter (λ w. not (list_any (λ m. m.id == w.id) group)) wants

-- .. that wait, once the group at the place started
abbrev pub plain_behind : Option ℕ → List Want → List PlainWant → List PlainWant
plain_behind None group wants = wants
plain_behind (Some place) group wants = plain_without group wants

-- when the due phase ends that starts then
abbrev pub end_of : Timing → Due → ℕ → ℕ
end_of timing due started = started + phase_length (group_spans timing due.group) (length due.group) due.phase

-- the due phase of what is given is that one, and ends then; its LUN says so, and the problem that is left is in its limits
pub record IsStep (channel : PlainChannel) (wants : List PlainWant) (schedule : PlainSchedule) (lun number started : ℕ) (step : Step) : Type 0 where
  pub timing : Timing
  pub rules : Rules
  pub said : IsFlightSaid channel wants schedule (flight_of timing rules channel.bus_free (luns_of channel) wants schedule)
  pub there : IsDueThere (flight_of timing rules channel.bus_free (luns_of channel) wants schedule) step.due lun number
  pub on_time : step.due.start ≤ started
  pub early : started < 2 ^ 61
  pub even : is_odd_schedule schedule ≡ false
  pub limits : InLimits (after_late (flight_of timing rules channel.bus_free (luns_of channel) wants schedule) step.due started).now
  pub ended : step.ended ≡ end_of timing step.due started
  pub lun_is : step.lun ≡ lun_in (lun_after timing step.due.group step.due.phase step.ended) (telling (luns_of channel) step.due.place step.due.lun step.due.group)
