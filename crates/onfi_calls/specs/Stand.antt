-- A channel with a schedule, as plain structs say them.
use Rattle.std.specs.Prelude.{◌≡◌, List, true, false}
use Rattle.onfi_problem.specs.Problem.{Problem}
use Rattle.onfi_schedule.specs.Schedule.{Schedule}
use Rattle.onfi_calls.specs.declared.channel.PlainChannel.{PlainChannel}
use Rattle.onfi_calls.specs.declared.channel.PlainWant.{PlainWant}
use Rattle.onfi_calls.specs.declared.schedule.PlainSchedule.{PlainSchedule}
use Rattle.onfi_calls.specs.declared.status.Status.{Status}
use Rattle.onfi_calls.specs.declared.status.Status.TheVariants.{BadSchedule, Memory}
use Rattle.onfi_calls.specs.Refused.{IsRefused}
use Rattle.onfi_calls.specs.Problem.{IsSaid, have_lacking}
use Rattle.onfi_calls.specs.ReadSchedule.{is_bad_schedule, schedule_of}

-- the problem that a caller says, with lengths of all that is put out, and the schedule of it
pub record IsScheduleSaid (channel : PlainChannel) (wants : List PlainWant) (schedule : PlainSchedule) (p : Problem)
    (s : Schedule) : Type 0 where
  pub problem : IsSaid channel wants p
  pub lengths : have_lacking channel wants ≡ false
  pub good : is_bad_schedule schedule ≡ false
  pub is : s ≡ schedule_of p.wants schedule

-- why there are none: the first of these; memory may run out on those that are said
pub data IsNoSchedule (channel : PlainChannel) (wants : List PlainWant) (schedule : PlainSchedule) (status : Status) : Type 0 where
  is_no_problem : IsRefused channel wants status → IsNoSchedule channel wants schedule status
  is_bad : (p : Problem) → IsSaid channel wants p → have_lacking channel wants ≡ false → is_bad_schedule schedule ≡ true → status ≡ BadSchedule
      → IsNoSchedule channel wants schedule status
  is_no_memory : (p : Problem) → IsSaid channel wants p → have_lacking channel wants ≡ false → is_bad_schedule schedule ≡ false → status ≡ Memory
      → IsNoSchedule channel wants schedule status
