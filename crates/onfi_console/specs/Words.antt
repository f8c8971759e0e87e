-- What the words of a command line ask for.
use Rattle.std.specs.Prelude.{◌≡◌, ◌≢◌, ◌≤◌, ℕ, ◌||◌, ⊤, List, Bool, true, false, is_some, bytes_eq, Option, Some, None, IsErrAnd, IsSomeAnd, Ok, codes, option_map}
use Rattle.clap.specs.Words.{App, Row as Used, Rule, first_of, new_app, new_rule, subcommand_of, with_rule, with_subcommand}
use Rattle.clap.specs.declared.builder.ArgAction.TheVariants.{Set, SetTrue}
use Rattle.onfi_planners.specs.declared.by.By.{By}
use Rattle.onfi_planners.specs.declared.by.By.TheVariants as way
use Rattle.onfi_script.specs.declared.auditing.AuditOptions.{AuditOptions}
use Rattle.onfi_script.specs.declared.auditing.GapOptions.{GapOptions}
use Rattle.onfi_script.specs.declared.command.Command.{Command}
use Rattle.onfi_script.specs.declared.command.Command.TheVariants.{Plan, Check, PlanBy, CheckWithin, Legal}
use Rattle.onfi_script.specs.declared.command.Output.{Output}
use Rattle.onfi_script.specs.declared.command.Output.TheVariants as output
use Rattle.onfi_script.specs.declared.command.PlanOptions.{PlanOptions}
use Rattle.onfi_script.specs.Field as field
use Rattle.onfi_script.specs.Limit.{IsLimited}
use Rattle.onfi_console.specs.declared.fault.Untaken.{Untaken}
use Rattle.onfi_console.specs.declared.fault.Untaken.TheVariants.{Refused, Memory, Version}
use Rattle.onfi_console.specs.declared.parsed.Named.{Named}
use Rattle.onfi_console.specs.declared.parsed.Named.TheVariants.{Problem, Run, Device, Audit, Gaps}
use Rattle.onfi_console.specs.declared.parsed.Parsed.{Parsed}
use Rattle.onfi_console.specs.declared.parsed.RunBy.{RunBy}
use Rattle.onfi_console.specs.declared.parsed.RunBy.TheVariants.{Plans, Next}
use Rattle.onfi_console.specs.declared.parsed.RunOptions.{RunOptions}

-- `--NAME VALUE`
abbrev pub value : List ℕ → Rule
value name = record (new_rule name) { long = Some name; action = Some Set; value_names = 1 }

-- `--NAME`
abbrev pub flag : List ℕ → Rule
flag name = record (new_rule name) { long = Some name; action = Some SetTrue }

-- `--quiet`, `-q`
abbrev pub quiet : Rule
quiet = record (flag (codes "quiet")) { short = Some 113 }

-- `--trace LOG`, of `run`
abbrev pub trace_file : Rule
trace_file = record (value (codes "trace-file")) { long = Some (codes "trace") }

-- a word that is no option
abbrev pub file : List ℕ → Rule
file name = record (new_rule name) { action = Some Set }

abbrev pub command : List ℕ → App
command name = new_app name

-- `plan [--by WAY] [--early] [--limit N] [--workers N]`
abbrev pub plan_search : App
plan_search = with_rule (with_rule (with_rule (with_rule (command (codes "plan")) (value (codes "by"))) (flag (codes "early"))) (value (codes "limit"))) (value (codes "workers"))

-- .. with `[--trace] [--requests] [--quiet] [FILE]`
abbrev pub plan : App
plan = with_rule (with_rule (with_rule (with_rule plan_search (flag (codes "trace"))) (flag (codes "requests"))) quiet) (file (codes "FILE"))

-- `check [--by WAY] [--remember] [--legal]`
abbrev pub check_judging : App
check_judging = with_rule (with_rule (with_rule (command (codes "check")) (value (codes "by"))) (flag (codes "remember"))) (flag (codes "legal"))

-- .. with `[--quiet] [FILE [PLAN]]`
abbrev pub check : App
check = with_rule (with_rule (with_rule check_judging quiet) (file (codes "FILE"))) (file (codes "PLAN"))

-- `run [--by WAY] [--early] [--limit N] [--clock CLOCK]`
abbrev pub run_planning : App
run_planning = with_rule (with_rule (with_rule (with_rule (command (codes "run")) (value (codes "by"))) (flag (codes "early"))) (value (codes "limit"))) (value (codes "clock"))

-- .. with `[--trace LOG] [--quiet] [FILE]`
abbrev pub run : App
run = with_rule (with_rule (with_rule run_planning trace_file) quiet) (file (codes "FILE"))

-- `device [--quiet] [FILE]`
abbrev pub device : App
device = with_rule (with_rule (command (codes "device")) quiet) (file (codes "FILE"))

-- `audit [--all] [--ready-by-status] [--tolerance NS] [--one-status]`
abbrev pub audit_judging : App
audit_judging = with_rule (with_rule (with_rule (with_rule (command (codes "audit")) (flag (codes "all"))) (flag (codes "ready-by-status"))) (value (codes "tolerance"))) (flag (codes "one-status"))

-- .. with `[--optimum] [--limit N] [--csv]`
abbrev pub audit_measuring : App
audit_measuring = with_rule (with_rule (with_rule audit_judging (flag (codes "optimum"))) (value (codes "limit"))) (flag (codes "csv"))

-- .. with `[--quiet] [FILE [LOG]]`
abbrev pub audit : App
audit = with_rule (with_rule (with_rule audit_measuring quiet) (file (codes "FILE"))) (file (codes "LOG"))

abbrev pub program : App
program = record (command (codes "onfi_sim")) { top = record (command (codes "onfi_sim")).top { has_version = true } }

-- .. with `plan` and `check`
abbrev pub planning : App
planning = with_subcommand (with_subcommand program plan.top) check.top

-- .. with `run`, `device` and `audit`
abbrev pub app : App
app = with_subcommand (with_subcommand (with_subcommand planning run.top) device.top) audit.top

-- the number that was given, 1 to `most`; where none was the usual one
abbrev pub IsNumber : ℕ → ℕ → Option (List ℕ) → ℕ → Type 0
IsNumber most usual None n = n ≡ usual
IsNumber most usual (Some text) n = field.number 1 most text ≡ Ok n

-- .. as a limit of nodes
abbrev pub IsLimit : ℕ → Option (List ℕ) → ℕ → Type 0
IsLimit usual given n = IsNumber 1048576 usual given n

-- .. as the number of workers
abbrev pub IsWorkers : Option (List ℕ) → ℕ → Type 0
IsWorkers given n = IsNumber 8 1 given n

-- by how much a phase may come too soon, 1 to 1,000,000; 0 where it wasn't given
abbrev pub IsTolerance : Option (List ℕ) → ℕ → Type 0
IsTolerance None n = n ≡ 0
IsTolerance (Some text) n = field.number 1 1000000 text ≡ Ok n

-- something was given that is no number from 1 to `most`
abbrev pub IsOutside : ℕ → Option (List ℕ) → Type 0
IsOutside most None = ⊥
IsOutside most (Some text) = IsErrAnd (field.number 1 most text) (λ fault. ⊤)

-- the flag was given: its value is the word true
abbrev pub is_given : Option (List ℕ) → Bool
is_given None = false
is_given (Some text) = bytes_eq text (codes "true")

-- what is printed of a plan: a trace where one of the flags that ask for it is given
abbrev pub output_of : Bool → Bool → Output
output_of trace true = output.Trace true
output_of true false = output.Trace false
output_of false false = output.Plan

-- the word for a way to plan
abbrev pub word_for : By → List ℕ
word_for way.Plain = codes "plain"
word_for way.Within = codes "within"
word_for way.Rule = codes "rule"

-- the way that was named; the plain one where none was
abbrev pub IsBy : Option (List ℕ) → By → Type 0
IsBy None by = by ≡ way.Plain
IsBy (Some text) by = text ≡ word_for by

-- .. to run
abbrev pub IsRunBy : Option (List ℕ) → RunBy → Type 0
IsRunBy given (Plans by) = IsBy given by
IsRunBy given Next = given ≡ Some (codes "next")

-- the limit of a way to plan: the one that was given, or the usual one. The rule searches nothing and takes none
abbrev pub IsLimitBy : By → Option (List ℕ) → ℕ → Type 0
IsLimitBy way.Plain given n = IsLimit 1048576 given n
IsLimitBy way.Within given n = IsLimit 65536 given n
IsLimitBy way.Rule given n = (given ≡ None) × (n ≡ 1048576)

-- .. of a way to run
abbrev pub IsRunLimit : RunBy → Option (List ℕ) → ℕ → Type 0
IsRunLimit (Plans by) given n = IsLimitBy by given n
IsRunLimit Next given n = (given ≡ None) × (n ≡ 1048576)

-- the workers of a way to plan: as many as were given, or one. None but the plain search takes any
abbrev pub IsWorkersBy : By → Option (List ℕ) → ℕ → Type 0
IsWorkersBy way.Plain given n = IsWorkers given n
IsWorkersBy _ given n = (given ≡ None) × (n ≡ 1)

-- the run has a clock: the word that was given is that of the simulated one; none where none was given
abbrev pub IsClock : Option (List ℕ) → Bool → Type 0
IsClock None clocked = clocked ≡ false
IsClock (Some text) clocked = (text ≡ codes "simulated") × (clocked ≡ true)

-- limits are 1 to 1,048,576, workers 1 to 8
abbrev pub IsInRange : Named → Type 0
IsInRange (Problem command workers) = IsLimited command × (1 ≤ workers) × (workers ≤ 8)
IsInRange (Run options) = (1 ≤ options.limit) × (options.limit ≤ 1048576)
IsInRange Device = ⊤
IsInRange (Audit options) = ⊤
IsInRange (Gaps options) = ⊤

-- the flag or number of this name
abbrev pub given : List ℕ → List Used → Bool
given name used = is_given (first_of name used)

-- what is printed of a plan, by the flags that are given
abbrev pub printed_by : List Used → Output
printed_by used = output_of (given (codes "trace") used) (given (codes "requests") used)

-- `plan` with these arguments asks for this, by that many workers
pub record IsPlan (options : PlanOptions) (workers : ℕ) (used : List Used) : Type 0 where
  pub is_by : IsBy (first_of (codes "by") used) options.by
  pub is_early : options.early ≡ given (codes "early") used
  pub is_limit : IsLimitBy options.by (first_of (codes "limit") used) options.limit
  pub is_workers : IsWorkersBy options.by (first_of (codes "workers") used) workers
  pub is_output : options.output ≡ printed_by used

-- the way whose plan texts are checked: as it is named, or by its former word
abbrev pub IsCheckBy : Option (List ℕ) → Bool → By → Type 0
IsCheckBy named false by = IsBy named by
IsCheckBy named true by = (named ≡ None) × (by ≡ way.Within)

-- `check` asks for plan texts as those by this way are
abbrev pub IsCheck : By → List Used → Type 0
IsCheck by used = (given (codes "legal") used ≡ false) × IsCheckBy (first_of (codes "by") used) (given (codes "remember") used) by

-- a command with this name is for this
abbrev pub IsProblem : Command → ℕ → List ℕ → List Used → Type 0
IsProblem (Plan limit trace) workers name used = ⊥
IsProblem (PlanBy options) workers name used = (name ≡ codes "plan") × IsPlan options workers used
IsProblem Check workers name used = (name ≡ codes "check") × (workers ≡ 1) × IsCheck way.Plain used
IsProblem CheckWithin workers name used = (name ≡ codes "check") × (workers ≡ 1) × IsCheck way.Within used
IsProblem Legal workers name used = (name ≡ codes "check") × (workers ≡ 1) × (given (codes "legal") used ≡ true) × (given (codes "remember") used ≡ false) × (first_of (codes "by") used ≡ None)

-- `run` with these arguments asks for this; where nothing is planned, no plan is made better
pub record IsRun (options : RunOptions) (used : List Used) : Type 0 where
  pub is_by : IsRunBy (first_of (codes "by") used) options.by
  pub is_early : options.early ≡ given (codes "early") used
  pub plans : options.early ≡ true → options.by ≢ Next
  pub is_limit : IsRunLimit options.by (first_of (codes "limit") used) options.limit
  pub is_clock : IsClock (first_of (codes "clock") used) options.clocked

-- `audit` without `--optimum` is for this: neither a limit nor a table is asked for
pub record IsAudit (options : AuditOptions) (used : List Used) : Type 0 where
  pub no_optimum : given (codes "optimum") used ≡ false
  pub no_limit : is_some (first_of (codes "limit") used) ≡ false
  pub no_table : given (codes "csv") used ≡ false
  pub is_all : options.all ≡ given (codes "all") used
  pub is_by_status : options.by_status ≡ given (codes "ready-by-status") used
  pub is_tolerance : IsTolerance (first_of (codes "tolerance") used) options.tolerance
  pub is_one_status : options.one_status ≡ given (codes "one-status") used

-- `audit --optimum` is for this, by the stated times
pub record IsGaps (options : GapOptions) (used : List Used) : Type 0 where
  pub optimum : given (codes "optimum") used ≡ true
  pub stated : given (codes "ready-by-status") used ≡ false
  pub no_tolerance : is_some (first_of (codes "tolerance") used) ≡ false
  pub each_status : given (codes "one-status") used ≡ false
  pub is_limit : IsLimit 65536 (first_of (codes "limit") used) options.limit
  pub is_all : options.all ≡ given (codes "all") used
  pub is_table : options.csv ≡ given (codes "csv") used

-- a subcommand with these arguments is what is named
abbrev pub IsNamed : Named → List ℕ → List Used → Type 0
IsNamed (Problem command workers) name used = IsProblem command workers name used
IsNamed (Run options) name used = (name ≡ codes "run") × IsRun options used
IsNamed Device name used = name ≡ codes "device"
IsNamed (Audit options) name used = (name ≡ codes "audit") × IsAudit options used
IsNamed (Gaps options) name used = (name ≡ codes "audit") × IsGaps options used

-- the file after that of the script: a plan text, or a log
abbrev pub file_or : Option (List ℕ) → Option (List ℕ) → Option (List ℕ)
file_or None log = log
file_or (Some plan) log = Some plan

abbrev pub second_file : List Used → Option (List ℕ)
second_file used = file_or (first_of (codes "PLAN") used) (first_of (codes "LOG") used)

-- .. with these files, quiet or not
pub record IsParsed (parsed : Parsed) (name : List ℕ) (used : List Used) : Type 0 where
  pub is_named : IsNamed parsed.named name used
  pub is_script : option_map (λ s. s.now) parsed.script ≡ first_of (codes "FILE") used
  pub is_plan : option_map (λ s. s.now) parsed.plan ≡ second_file used
  pub is_trace : option_map (λ s. s.now) parsed.trace_file ≡ first_of (codes "trace-file") used
  pub is_quiet : parsed.quiet ≡ given (codes "quiet") used

-- the words, of which the first is the program's name, ask for this
abbrev pub Ask : List (List ℕ) → Parsed → Type 0
Ask words parsed = IsSomeAnd (subcommand_of app words) (λ p. IsParsed parsed p.0 p.1)

-- a word asks for quiet
abbrev pub is_quiet_word : List ℕ → Bool
is_quiet_word word = bytes_eq word (codes "--quiet") || bytes_eq word (codes "-q")

-- .. where words are read as a call for the version
abbrev pub IfVersion : Untaken → Type 0 → Type 0
IfVersion (Version text) holds = holds
IfVersion (Refused text) holds = ⊤
IfVersion Memory holds = ⊤
