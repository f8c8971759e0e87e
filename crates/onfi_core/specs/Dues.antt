-- The phase that is due, and what it leaves.
use Rattle.std.specs.Prelude.{◌≡◌, ◌<◌, ◌≤◌, ◌-◌, ◌*◌, ◌^◌, Option, None, Some, List, [], length, map, option_to_list, slice_get}
use Rattle.onfi_request.specs.declared.reply.Reply.{Reply}
use Rattle.onfi_request.specs.declared.request.Item.{Item}
use Rattle.onfi_request.specs.declared.fault.Fault.{Fault}
use Rattle.onfi_flight.specs.declared.due.Due.{Due}
use Rattle.onfi_flight.specs.Flight.{Flight, IsDue as IsDueOf, IsPhase, left_behind, move_of}
use Rattle.onfi_problem.specs.Moves.{move_lun}
use Rattle.onfi_problem.specs.Problem.{Problem}
use Rattle.onfi_schedule.specs.Schedule.{Schedule}
use Rattle.onfi_steady.specs.Waiting.{Books}
use Rattle.onfi_core.specs.declared.half.DueRefusal.{DueRefusal}
use Rattle.onfi_core.specs.declared.half.DueRefusal.TheVariants as refusal
use Rattle.onfi_core.specs.declared.outcome.Outcome.{Outcome}
use Rattle.onfi_core.specs.declared.outcome.Outcome.TheVariants as outcome
use Rattle.onfi_core.specs.State.{HalfState, flight_of}
use Rattle.onfi_lun.specs.declared.phase_result.PhaseResult.{PhaseResult}
use Rattle.onfi_lun.specs.declared.phase_result.PhaseResult.TheVariants as ran
use Rattle.onfi_core.specs.Steps.{GoesNext, half_after_phase, reply_to}

-- why no phase is due, as an outcome
abbrev pub due_outcome : DueRefusal → Outcome
due_outcome (refusal.Stopped cause) = outcome.Stopped cause
due_outcome refusal.NoPlan = outcome.NoPlan

-- it is the phase that is next by the books, of the group and with the number that the problem says, and starts before 2^62 ns
pub record IsNextDue (books : Books) (p : Problem) (due : Due) : Type 0 where
  pub next : GoesNext books p (move_of due) due.start
  pub phase : IsPhase p (move_of due) due.group due.phase
  pub lun : move_lun (move_of due) ≡ due.lun
  pub within : due.phase < 2 * length due.group
  pub time : due.start < 2 ^ 62

abbrev pub IsDueBy : Option Books → Flight → Due → Type 0
IsDueBy None f due = IsDueOf f due
IsDueBy (Some books) f due = IsNextDue books f.now due

-- it is the undone phase of least start, or what is next by the books
abbrev pub IsDue : HalfState → Due → Type 0
IsDue h due = IsDueBy h.books (flight_of h) due

-- what it leaves of the plan
abbrev pub left_by : Option Books → Schedule → Due → Schedule
left_by None left due = left_behind left due
left_by (Some books) left due = left

-- the state once the due phase is done, with these replies more
abbrev pub after_due : HalfState → Due → List Reply → HalfState
after_due h due replies = half_after_phase h (move_of due) due.start (left_by h.books h.left due) replies

-- the chip gives an answer at a post, and nothing at a command
abbrev pub IsRan : Due → PhaseResult → Type 0
IsRan due ran.Command = due.phase < length due.group
IsRan due (ran.Post answer) = length due.group ≤ due.phase

-- the reply that the phase makes: at a post that to its member
abbrev pub replies_of : List Item → List Fault → Due → PhaseResult → List Reply
replies_of accepted faults due ran.Command = []
replies_of accepted faults due (ran.Post answer) = map (λ m. reply_to accepted faults m answer) (option_to_list (slice_get due.group (due.phase - length due.group)))
