-- What a log has left that begins with a channel as a caller says it.
use Rattle.std.specs.Prelude.{◌≡◌, ℕ, [], replicate}
use Rattle.onfi_audit.specs.Audit.{opening}
use Rattle.onfi_problem.specs.Left.{InLimits}
use Rattle.onfi_problem.specs.Problem.{Problem, HasLengths}
use Rattle.onfi_calls.specs.declared.audit.PlainAudit.{PlainAudit}
use Rattle.onfi_calls.specs.declared.channel.PlainChannel.{PlainChannel}
use Rattle.onfi_calls.specs.declared.schedule.PlainSchedule.{PlainSchedule}
use Rattle.onfi_calls.specs.declared.status.Status.{Status}
use Rattle.onfi_calls.specs.Audit.{IsAuditSaid, no_stage}
use Rattle.onfi_calls.specs.Flights.{IsNoFlight}
use Rattle.onfi_calls.specs.Problem.{IsSaid}
use Rattle.onfi_calls.specs.Status.{number_of}
use Rattle.onfi_calls.specs.PlainSchedule.{no_group, no_rest}

-- all members of what its LUNs run are known
abbrev pub begun : PlainChannel → PlainAudit
begun channel = record { channel = channel; accepted = 0; stage = replicate 8 no_stage }

-- nothing is planned
abbrev pub no_schedule : PlainSchedule
no_schedule = record { luns = 0; groups = 0; rest = replicate 8 no_rest; group = replicate 8 no_group }

-- a caller keeps what a log has left that begins with the channel; or a number says why there is none, and all is as it was
pub data GivesAudit (channel : PlainChannel) (old new : PlainAudit) (result : ℕ) : Type 0 where
  gives_audit : (p : Problem) → IsSaid channel [] p → InLimits p → HasLengths p → IsAuditSaid new (opening p) → result ≡ 0 → GivesAudit channel old new result
  refuses_audit : (status : Status) → IsNoFlight channel [] no_schedule status → new ≡ old → result ≡ number_of status → GivesAudit channel old new result
