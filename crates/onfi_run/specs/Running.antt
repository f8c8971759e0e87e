-- What is written for the input of a run, and with which status.
use Rattle.std.specs.Prelude.{◌≡◌, ℕ, Bool, true, false, List, take, Option, IfSome}
use Rattle.std.specs.Io.KnownBytes.{Appends}
use Rattle.onfi_script.specs.declared.device.PageDevice.{PageDevice}
use Rattle.onfi_script.specs.declared.fault.Refusal.{Refusal}
use Rattle.onfi_script.specs.declared.purpose.Purpose.{Purpose}
use Rattle.onfi_script.specs.declared.purpose.Purpose.TheVariants.{Clocked, Run}
use Rattle.onfi_script.specs.declared.row.Row.{Row}
use Rattle.onfi_script.specs.Text.{Answer, memory, refused}
use Rattle.onfi_run.specs.Prepares.{IsPrepared, IsRefused}
use Rattle.onfi_run.specs.Report.{ReportView, report_answer}
use Rattle.onfi_run.specs.Told.{IsReportOf}

-- what the rows are read for: moments of arrival stand in a run with a clock alone
abbrev pub purpose_of : Bool → Purpose
purpose_of true = Clocked
purpose_of false = Run

-- the answers to an input: that memory ran out, the line of its refusal, or the text of a report on its rows, whose channels opened at most so many nodes a planning, if they planned
pub data IsAnswer (clocked : Bool) (nodes : Option ℕ) (input : List ℕ) (answer : Answer) : Type 0 where
  is_memory : answer ≡ memory → IsAnswer clocked nodes input answer
  is_refused : (refusal : Refusal) → IsRefused (purpose_of clocked) input refusal → answer ≡ refused refusal → IsAnswer clocked nodes input answer
  is_report : (rows : List Row) (device : PageDevice) (report : ReportView) → IsPrepared (purpose_of clocked) input rows device → IsReportOf clocked nodes rows report → answer ≡ report_answer report → IsAnswer clocked nodes input answer

-- the writer was given an answer to what the reader had, where both show their bytes
abbrev pub Answers : Bool → Option ℕ → Option (List ℕ) → Option (List ℕ) → Option (List ℕ) → ℕ → Type 0
Answers clocked nodes input old new status = IfSome input (λ xs. (answer : Answer) × IsAnswer clocked nodes xs answer × (answer.status ≡ status) × Appends old new answer.text)

-- the same of a beginning of it
abbrev pub BeginsAnswer : Bool → Option ℕ → Option (List ℕ) → Option (List ℕ) → Option (List ℕ) → Type 0
BeginsAnswer clocked nodes input old new = IfSome input (λ xs. (answer : Answer) × (n : ℕ) × IsAnswer clocked nodes xs answer × Appends old new (take n answer.text))
