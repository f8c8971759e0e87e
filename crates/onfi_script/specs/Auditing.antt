-- The answer to a script with a log.
use Rattle.std.specs.Prelude.{◌≡◌, ◌≢◌, ℕ, ◌+◌, ◌≤◌, ◌⊎◌, Bool, true, false, List, [], ◌∷◌, length, Option, Some, None, position, Result, Ok, Err}
use Rattle.onfi_timing.specs.Kinds.{IsStated}
use Rattle.onfi_timing.specs.declared.kind.Kind.TheVariants.{Erase}
use Rattle.onfi_request.specs.declared.want.Want.{Want}
use Rattle.onfi_problem.specs.Problem.{Problem}
use Rattle.onfi_problem.specs.declared.fault.ProblemFault.{ProblemFault}
use Rattle.onfi_problem.specs.declared.fault.ProblemFault.TheVariants.{TooMany, BadLun, NoLengths, Clock, Memory}
use Rattle.onfi_audit.specs.Audit.{Audit, IsAccepted, accepting, opening, request_of}
use Rattle.onfi_log.specs.declared.manner.Manner.{Manner}
use Rattle.onfi_log.specs.declared.manner.Statuses.{Statuses}
use Rattle.onfi_log.specs.declared.manner.Statuses.TheVariants.{EachPlane, OneForAll}
use Rattle.onfi_log.specs.declared.readies.Readies.{Readies}
use Rattle.onfi_log.specs.declared.readies.Readies.TheVariants.{Stated, Reported}
use Rattle.onfi_log.specs.declared.requests.Requests.{Requests}
use Rattle.onfi_log.specs.declared.requests.Requests.TheVariants.{Accepted, Mentioned}
use Rattle.onfi_log.specs.Text.{Answer as LogAnswer, AnswersLogBy}
use Rattle.onfi_script.specs.declared.auditing.AuditOptions.{AuditOptions}
use Rattle.onfi_script.specs.declared.device.Device.{Device}
use Rattle.onfi_script.specs.declared.fault.Refusal.{Refusal}
use Rattle.onfi_script.specs.declared.fault.ScriptFault.{ScriptFault}
use Rattle.onfi_script.specs.declared.fault.ScriptFault.TheVariants.{OutOfRange, Problem as Fault}
use Rattle.onfi_script.specs.declared.purpose.Purpose.TheVariants as for_a
use Rattle.onfi_script.specs.declared.row.Row.{Row}
use Rattle.onfi_script.specs.Answer.{TellsProblem, whole}
use Rattle.onfi_script.specs.Device.{TellsDevice}
use Rattle.onfi_script.specs.Input.{TellsRows}
use Rattle.onfi_script.specs.Script.{plan_text_of}
use Rattle.onfi_script.specs.Setup.{SetsUp, asks_amiss, is_beyond}
use Rattle.onfi_script.specs.Text.{Answer, refused}

-- the same, of which nothing waits
abbrev pub bare : Problem → Problem
bare p = record p { wants = [] }

-- the next request of an audit, which asks for what the want does
abbrev pub next_of : Audit → Want → Want
next_of a w = request_of a w.kind w.lun w.block w.page

-- why an audit doesn't accept a want
abbrev pub RefusesWant : Audit → Want → ProblemFault → Type 0
RefusesWant a w BadLun = (length a.luns ≤ w.lun) ⊎ ((w.kind ≡ Erase) × (w.page ≢ 0))
RefusesWant a w NoLengths = IsStated a.timing w.kind → ⊥
RefusesWant a w TooMany = ⊥
RefusesWant a w Clock = ⊥
RefusesWant a w Memory = ⊥

-- the audit that accepted the wants, one after another, or why it doesn't accept the first that it doesn't
abbrev pub AcceptsAll : List Want → Audit → Result Audit Refusal → Type 0
AcceptsAll [] a told = told ≡ Ok a
AcceptsAll (w ∷ ws) a told =
    (IsAccepted a (next_of a w) × AcceptsAll ws (accepting a (next_of a w)) told)
    ⊎ ((fault : ProblemFault) × RefusesWant a w fault × (told ≡ Err (whole (Fault fault))))

-- what was set up, but its wants, is a problem
abbrev pub IsOpened : List Row → Problem → Type 0
IsOpened rows p = TellsProblem rows (bare p) (Ok (bare p))

-- what a log begins with, of what rows set up: the channel with its requests; else why that is none
pub data TellsBegun (rows : List Row) (p : Problem) (told : Result Audit Refusal) : Type 0 where
  has_fault : (refusal : Refusal) → TellsProblem rows (bare p) (Err refusal) → told ≡ Err refusal → TellsBegun rows p told
  refuses_want : (refusal : Refusal) → IsOpened rows p → AcceptsAll p.wants (opening (bare p)) (Err refusal) → told ≡ Err refusal → TellsBegun rows p told
  is_amiss : IsOpened rows p → asks_amiss rows p.wants ≡ true → told ≡ Err (whole (Fault NoLengths)) → TellsBegun rows p told
  is_begun : (a : Audit) → IsOpened rows p → AcceptsAll p.wants (opening (bare p)) (Ok a) → asks_amiss rows p.wants ≡ false → told ≡ Ok a → TellsBegun rows p told

-- a log mentions its requests where its script names none
abbrev pub requests_of : List Want → Requests
requests_of [] = Mentioned
requests_of (w ∷ ws) = Accepted

abbrev pub Begun : Type 0
Begun = Audit × Requests

-- rows that are each in order: why they describe no device, the first that goes beyond it, or what a log begins with
pub data TellsOpening (rows : List Row) (told : Result Begun Refusal) : Type 0 where
  has_no_device : (fault : ScriptFault) → TellsDevice rows (Err fault) → told ≡ Err (whole fault) → TellsOpening rows told
  goes_beyond : (device : Device) (at : ℕ) → TellsDevice rows (Ok device) → position (is_beyond device) rows ≡ Some at
      → told ≡ Err (record { row = at + 1; fault = OutOfRange }) → TellsOpening rows told
  is_refused : (device : Device) (p : Problem) (refusal : Refusal) → TellsDevice rows (Ok device) → position (is_beyond device) rows ≡ None → SetsUp rows device p
      → TellsBegun rows p (Err refusal) → told ≡ Err refusal → TellsOpening rows told
  has_opening : (device : Device) (p : Problem) (a : Audit) → TellsDevice rows (Ok device) → position (is_beyond device) rows ≡ None → SetsUp rows device p
      → TellsBegun rows p (Ok a) → told ≡ Ok (a, requests_of p.wants) → TellsOpening rows told

-- .. of an input
pub data TellsLog (input : List ℕ) (told : Result Begun Refusal) : Type 0 where
  has_refusal : (refusal : Refusal) → TellsRows for_a.Problem input (Err refusal) → told ≡ Err refusal → TellsLog input told
  has_rows : (rows : List Row) → TellsRows for_a.Problem input (Ok rows) → TellsOpening rows told → TellsLog input told

-- from when on LUNs are ready
abbrev pub readies_of : Bool → Readies
readies_of false = Stated
readies_of true = Reported

-- which statuses a log has of a group
abbrev pub statuses_of : Bool → Statuses
statuses_of false = EachPlane
statuses_of true = OneForAll

abbrev pub manner_of : AuditOptions → Manner
manner_of options = record { readies = readies_of options.by_status; tolerance = options.tolerance; statuses = statuses_of options.one_status }

-- the answer to an input with a log: why its script is refused, or what is reported of the log
pub data AnswersAuditBy (options : AuditOptions) (input : List ℕ) (answer : Answer) : Type 0 where
  is_unread : (refusal : Refusal) → TellsLog input (Err refusal) → answer ≡ refused refusal → AnswersAuditBy options input answer
  is_judged : (a : Audit) (requests : Requests) (log : LogAnswer) → TellsLog input (Ok (a, requests))
      → AnswersLogBy requests (manner_of options) a options.all (plan_text_of input) log
      → answer ≡ (record { text = log.text; status = log.status }) → AnswersAuditBy options input answer

-- .. of phases alone
abbrev pub AnswersAudit : Bool → List ℕ → Answer → Type 0
AnswersAudit all input answer = AnswersAuditBy (record { all = all; by_status = false; tolerance = 0; one_status = false }) input answer
