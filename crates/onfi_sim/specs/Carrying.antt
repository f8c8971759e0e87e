-- What the program answers, by what its command line names.
use Rattle.std.specs.Prelude.{◌≡◌, ℕ, ◌==◌, ◌-◌, nat_le, Bool, true, false, if◌then◌else◌, List, [], ◌++◌, length, take, Option, Some, None, IfSome, codes, ◌⊎◌}
use Rattle.std.specs.List.{slice_get}
use Rattle.std.specs.Io.KnownBytes.{Appends}
use Rattle.onfi_problem.specs.Problem.{Problem as Posed}
use Rattle.onfi_script.specs.Answer.{IsAnswerBy, OneTells, PartsTell}
use Rattle.onfi_script.specs.Auditing.{AnswersAuditBy}
use Rattle.onfi_script.specs.Gaps.{AnswersGaps}
use Rattle.onfi_script.specs.Text.{Answer, memory}
use Rattle.onfi_console.specs.declared.parsed.Named.{Named}
use Rattle.onfi_console.specs.declared.parsed.Named.TheVariants.{Problem, Run, Device, Audit, Gaps}
use Rattle.onfi_console.specs.declared.parsed.RunBy.{RunBy}
use Rattle.onfi_console.specs.declared.parsed.RunBy.TheVariants.{Next, Plans}
use Rattle.onfi_console.specs.declared.parsed.RunOptions.{RunOptions}
use Rattle.onfi_console.specs.Described.{IsDescription}
use Rattle.onfi_core.specs.declared.setup.Choice.{Choice}
use Rattle.onfi_core.specs.declared.setup.Choice.TheVariants.{InOrder, NextPhase}
use Rattle.onfi_run.specs.Ending.{nodes_by}
use Rattle.onfi_run.specs.Running.{IsAnswer as IsRunAnswer}

-- the line end that a text lacks whose last byte is this
abbrev pub end_after : Option ℕ → List ℕ
end_after None = []
end_after (Some byte) = if byte == 10 then [] else codes "\n"

-- a script that doesn't end with a line end lacks one
abbrev pub line_end : List ℕ → List ℕ
line_end script = end_after (slice_get script (length script - 1))

-- the script alone, or with the plan text or log of another file after it, which begins a line
abbrev pub joined : List ℕ → Option (List ℕ) → List ℕ
joined script None = script
joined script (Some text) = script ++ (line_end script ++ text)

-- what is reported of a search that is over: by one worker, or by several
abbrev pub TellsBy : Bool → ℕ → Posed → ℕ → Type 0
TellsBy true = OneTells
TellsBy false = PartsTell

-- the next phase alone, or plans of requests in order
abbrev pub choice_of : RunBy → Choice
choice_of Next = NextPhase
choice_of (Plans by) = InOrder

-- how many nodes a planning of the run may open, if any is made
abbrev pub nodes_of : RunOptions → Option ℕ
nodes_of options = nodes_by (choice_of options.by) options.limit

-- the answers to an input by what is named: a plan or a verdict, the report of a run, a device's description, or what an audit says of a log; or that memory was refused
abbrev pub AnswersNamed : Named → List ℕ → Answer → Type 0
AnswersNamed (Problem command workers) input answer = IsAnswerBy (TellsBy (nat_le workers 1)) command input answer
AnswersNamed (Run options) input answer = IsRunAnswer options.clocked (nodes_of options) input answer
AnswersNamed Device input answer = (answer ≡ memory) ⊎ IsDescription input answer
AnswersNamed (Audit options) input answer = (answer ≡ memory) ⊎ AnswersAuditBy options input answer
AnswersNamed (Gaps options) input answer = (answer ≡ memory) ⊎ AnswersGaps options input answer

-- the writer was given such an answer to what the reader had, where both show their bytes; this is its status
abbrev pub CarriesOut : Named → Option (List ℕ) → Option (List ℕ) → Option (List ℕ) → ℕ → Type 0
CarriesOut named input old new status = IfSome input (λ xs. (answer : Answer) × AnswersNamed named xs answer × (answer.status ≡ status) × Appends old new answer.text)

-- the same of a beginning of it
abbrev pub BeginsToCarryOut : Named → Option (List ℕ) → Option (List ℕ) → Option (List ℕ) → Type 0
BeginsToCarryOut named input old new = IfSome input (λ xs. (answer : Answer) × (n : ℕ) × AnswersNamed named xs answer × Appends old new (take n answer.text))
