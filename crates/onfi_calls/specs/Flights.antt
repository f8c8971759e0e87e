-- What is left of a schedule, as a caller says it with its channel.
use Rattle.std.specs.Prelude.{◌≡◌, List, true, false}
use Rattle.onfi_problem.specs.Problem.{Problem, HasLengths}
use Rattle.onfi_problem.specs.Left.{InLimits}
use Rattle.onfi_flight.specs.Flight.{Flight}
use Rattle.onfi_calls.specs.declared.channel.PlainChannel.{PlainChannel}
use Rattle.onfi_calls.specs.declared.channel.PlainWant.{PlainWant}
use Rattle.onfi_calls.specs.declared.schedule.PlainSchedule.{PlainSchedule}
use Rattle.onfi_calls.specs.declared.status.Status.{Status}
use Rattle.onfi_calls.specs.declared.status.Status.TheVariants.{BadSchedule}
use Rattle.onfi_calls.specs.Refused.{AreSaid, IsFaultSaid, IsUnsaid}
use Rattle.onfi_calls.specs.Problem.{IsSaid, have_lacking}
use Rattle.onfi_calls.specs.Stand.{IsScheduleSaid}
use Rattle.onfi_calls.specs.ReadSchedule.{is_bad_schedule}

-- the problem that a caller says, within the limits and with the lengths that each call asks, and the schedule of it, legal or not
pub record IsFlightSaid (channel : PlainChannel) (wants : List PlainWant) (schedule : PlainSchedule) (f : Flight) : Type 0 where
  pub said : IsScheduleSaid channel wants schedule f.now f.left
  pub limits : InLimits f.now
  pub measured : HasLengths f.now

-- why there are none: the first of these
pub data IsNoFlight (channel : PlainChannel) (wants : List PlainWant) (schedule : PlainSchedule) (status : Status) : Type 0 where
  is_unsaid : IsUnsaid channel wants status → IsNoFlight channel wants schedule status
  is_no_problem : AreSaid channel wants → IsFaultSaid channel wants status → IsNoFlight channel wants schedule status
  is_bad : (p : Problem) → IsSaid channel wants p → have_lacking channel wants ≡ false → InLimits p → is_bad_schedule schedule ≡ true → status ≡ BadSchedule
      → IsNoFlight channel wants schedule status
