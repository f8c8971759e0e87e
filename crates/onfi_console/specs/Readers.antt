-- What is read off a command line: its command, limit, trace and workers.
use Rattle.std.specs.Prelude.{◌≡◌, ℕ, ◌||◌, if◌then◌else◌, List, Bool, true, false, Option, Some, None, IsSomeAnd, bytes_eq, codes}
use Rattle.clap.specs.Words.{Row as Used, first_of, subcommand_of}
use Rattle.onfi_script.specs.declared.command.Command.{Command}
use Rattle.onfi_script.specs.declared.command.Command.TheVariants.{Plan, Check, PlanBy, CheckWithin, Legal}
use Rattle.onfi_script.specs.declared.command.Output.{Output}
use Rattle.onfi_script.specs.declared.command.Output.TheVariants as output
use Rattle.onfi_console.specs.declared.parsed.CommandName.{CommandName}
use Rattle.onfi_console.specs.declared.parsed.CommandName.TheVariants as called
use Rattle.onfi_console.specs.declared.parsed.Named.{Named}
use Rattle.onfi_console.specs.declared.parsed.Named.TheVariants.{Problem, Run, Device, Audit, Gaps}
use Rattle.onfi_console.specs.declared.parsed.Parsed.{Parsed}
use Rattle.onfi_console.specs.Words.{IsLimit, IsWorkers, app, given}

-- which of the commands carries it out
abbrev pub command_in : Command → CommandName
command_in (Plan limit trace) = called.Plan
command_in (PlanBy options) = called.Plan
command_in Check = called.Check
command_in CheckWithin = called.Check
command_in Legal = called.Check

-- how many nodes a search may open: the greatest limit where nothing is searched
abbrev pub limit_in : Command → ℕ
limit_in (Plan limit trace) = limit
limit_in (PlanBy options) = options.limit
limit_in Check = 1048576
limit_in CheckWithin = 1048576
limit_in Legal = 1048576

abbrev pub is_trace : Output → Bool
is_trace output.Plan = false
is_trace (output.Trace requests) = true

-- a trace is printed in place of the plan
abbrev pub trace_in : Command → Bool
trace_in (Plan limit trace) = trace
trace_in (PlanBy options) = is_trace options.output
trace_in Check = false
trace_in CheckWithin = false
trace_in Legal = false

abbrev pub command_of : Named → CommandName
command_of (Problem command workers) = command_in command
command_of (Run options) = called.Run
command_of Device = called.Device
command_of (Audit options) = called.Audit
command_of (Gaps options) = called.Audit

abbrev pub limit_of : Named → ℕ
limit_of (Problem command workers) = limit_in command
limit_of (Run options) = options.limit
limit_of Device = 1048576
limit_of (Audit options) = 1048576
limit_of (Gaps options) = options.limit

abbrev pub trace_of : Named → Bool
trace_of (Problem command workers) = trace_in command
trace_of (Run options) = false
trace_of Device = false
trace_of (Audit options) = false
trace_of (Gaps options) = false

abbrev pub workers_of : Named → ℕ
workers_of (Problem command workers) = workers
workers_of (Run options) = 1
workers_of Device = 1
workers_of (Audit options) = 1
workers_of (Gaps options) = 1

-- the word for a command
abbrev pub word_of : CommandName → List ℕ
word_of called.Plan = codes "plan"
word_of called.Check = codes "check"
word_of called.Run = codes "run"
word_of called.Device = codes "device"
word_of called.Audit = codes "audit"

-- the limit of a search where none is named, by the way that is
abbrev pub usual_by : Option (List ℕ) → ℕ
usual_by None = 1048576
usual_by (Some text) = if bytes_eq text (codes "within") then 65536 else 1048576

-- .. and of an audit
abbrev pub usual_in : Named → ℕ
usual_in (Gaps options) = 65536
usual_in _ = 1048576

-- the limit that was given; `check` and `device` take none
abbrev pub IsLimitRead : CommandName → Named → List Used → Type 0
IsLimitRead called.Check named used = limit_of named ≡ 1048576
IsLimitRead called.Device named used = limit_of named ≡ 1048576
IsLimitRead called.Plan named used = IsLimit (usual_by (first_of (codes "by") used)) (first_of (codes "limit") used) (limit_of named)
IsLimitRead called.Run named used = IsLimit (usual_by (first_of (codes "by") used)) (first_of (codes "limit") used) (limit_of named)
IsLimitRead called.Audit named used = IsLimit (usual_in named) (first_of (codes "limit") used) (limit_of named)

-- whether a flag that asks for a trace was given; `plan` alone takes one
abbrev pub IsTraceRead : CommandName → Named → List Used → Type 0
IsTraceRead called.Plan named used = trace_of named ≡ (given (codes "trace") used || given (codes "requests") used)
IsTraceRead called.Check named used = trace_of named ≡ false
IsTraceRead called.Run named used = trace_of named ≡ false
IsTraceRead called.Device named used = trace_of named ≡ false
IsTraceRead called.Audit named used = trace_of named ≡ false

-- the number of workers that was given; `plan` alone takes one
abbrev pub IsWorkersRead : CommandName → Named → List Used → Type 0
IsWorkersRead called.Plan named used = IsWorkers (first_of (codes "workers") used) (workers_of named)
IsWorkersRead called.Check named used = workers_of named ≡ 1
IsWorkersRead called.Run named used = workers_of named ≡ 1
IsWorkersRead called.Device named used = workers_of named ≡ 1
IsWorkersRead called.Audit named used = workers_of named ≡ 1

-- what is read is what a subcommand with these arguments names, the defaults where it names none
pub record IsRead (named : Named) (name : List ℕ) (used : List Used) : Type 0 where
  pub command : word_of (command_of named) ≡ name
  pub limit : IsLimitRead (command_of named) named used
  pub trace : IsTraceRead (command_of named) named used
  pub workers : IsWorkersRead (command_of named) named used

-- .. what the words name, of which the first is the program's name
abbrev pub AreRead : List (List ℕ) → Parsed → Type 0
AreRead words parsed = IsSomeAnd (subcommand_of app words) (λ p. IsRead parsed.named p.0 p.1)
