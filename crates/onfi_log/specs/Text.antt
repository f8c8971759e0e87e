-- The answer to a log.
use Rattle.std.specs.Prelude.{◌≡◌, ℕ, ◌+◌, ◌==◌, if◌then◌else◌, Bool, true, false, List, [], ◌∷◌, ◌++◌, Option, Some, None, codes}
use Rattle.std.specs.Fmt.{decimal}
use Rattle.onfi_audit.specs.Audit.{Audit}
use Rattle.onfi_timing.specs.declared.operation.Operation.{Operation}
use Rattle.onfi_audit.specs.declared.breach.LogBreach.{LogBreach}
use Rattle.onfi_audit.specs.declared.breach.LogBreach.TheVariants.{TooLate, NoLun, NothingRuns, OtherPhase, UnknownRequest, BlockOrder, NotGrouped, BusNotFree, LunNotFree, NotReady}
use Rattle.onfi_log.specs.declared.answer.LogAnswer.{LogAnswer}
use Rattle.onfi_log.specs.declared.breach.LineBreach.{LineBreach}
use Rattle.onfi_log.specs.declared.breach.LineBreach.TheVariants.{Condition, NotClosed, OtherBytes, OtherEnd}
use Rattle.onfi_log.specs.declared.entry.LogEntry.{LogEntry}
use Rattle.onfi_log.specs.declared.manner.Manner.{Manner}
use Rattle.onfi_log.specs.declared.readies.Readies.{Readies}
use Rattle.onfi_log.specs.declared.requests.Requests.{Requests}
use Rattle.onfi_log.specs.Bytes.{closer_word, opener_word}
use Rattle.onfi_log.specs.Entry.{entry_of, lun_in, phases_in}
use Rattle.onfi_log.specs.Judging.{IsFresh, Judged, Takes, beginning}
use Rattle.onfi_log.specs.Manner.{exact}
use Rattle.onfi_log.specs.Parts.{parts}

-- what is written, and the status that goes with it
pub record Answer : Type 0 where
  pub text : List ℕ
  pub status : ℕ

abbrev pub answer_of : LogAnswer → Answer
answer_of a = record { text = a.text.items; status = a.status }

-- The answer's lines

abbrev pub part_word : Bool → List ℕ
part_word false = codes "cmd"
part_word true = codes "post"

-- the condition that a line of that LUN breaks, with who and, of times, when and from when it could
abbrev pub condition : ℕ → LogBreach → List ℕ
condition lun TooLate = codes "TooLate"
condition lun (NoLun l) = codes "NoLun " ++ decimal l
condition lun (NothingRuns l) = codes "NothingRuns " ++ decimal l
condition lun (OtherPhase l is_post block page) = codes "OtherPhase " ++ (decimal l ++ (codes " " ++ (part_word is_post ++ (codes " " ++ (decimal block ++ (codes " " ++ decimal page))))))
condition lun (UnknownRequest l block) = codes "UnknownRequest " ++ (decimal l ++ (codes " " ++ decimal block))
condition lun (BlockOrder earlier later) = codes "BlockOrder " ++ (decimal earlier ++ (codes " " ++ decimal later))
condition lun (NotGrouped first request) = codes "NotGrouped " ++ decimal lun
condition lun (BusNotFree start bus_free) = codes "BusNotFree " ++ (decimal start ++ (codes " " ++ decimal bus_free))
condition lun (LunNotFree l start since) = codes "LunNotFree " ++ (decimal l ++ (codes " " ++ (decimal start ++ (codes " " ++ decimal since))))
condition lun (NotReady l start ready) = codes "NotReady " ++ (decimal l ++ (codes " " ++ (decimal start ++ (codes " " ++ decimal ready))))

-- .. or a field of the line, with what stands there and what the phase has
abbrev pub breach_word : ℕ → LineBreach → List ℕ
breach_word lun (Condition b) = condition lun b
breach_word lun (NotClosed l) = codes "NotClosed " ++ decimal l
breach_word lun (OtherEnd end ends) = codes "OtherEnd " ++ (decimal end ++ (codes " " ++ decimal ends))
breach_word lun (OtherBytes operation is_post is_last) = codes "OtherBytes " ++ (opener_word operation is_post ++ (codes " " ++ closer_word operation is_post is_last))

-- `illegal LINE CONDITION ..`
abbrev pub breach_text : ℕ → ℕ → LineBreach → List ℕ
breach_text number lun b = codes "illegal " ++ (decimal number ++ (codes " " ++ (breach_word lun b ++ codes "\n")))

-- lines of conditions that are broken
abbrev pub broken : List ℕ → Answer
broken found = record { text = found; status = 2 }

-- .. before a line that says nothing
abbrev pub wrong : ℕ → List ℕ → Answer
wrong number found = broken (found ++ (codes "refused log " ++ (decimal number ++ codes "\n")))

-- `used N`: of a legal log whose phases may come too soon, by how much one did at most
abbrev pub used_text : Option ℕ → List ℕ
used_text None = []
used_text (Some early) = codes "used " ++ (decimal early ++ codes "\n")

-- .. where the log ends after so many phases
abbrev pub ended_by : ℕ → Option ℕ → List ℕ → Answer
ended_by phases used [] = record { text = codes "legal " ++ (decimal phases ++ (codes "\n" ++ used_text used)); status = 0 }
ended_by phases used (c ∷ found) = broken (c ∷ found)

-- .. with nothing more; what has no line end is no line
abbrev pub ended : ℕ → ℕ → Option ℕ → List ℕ → List ℕ → Answer
ended number phases used found [] = ended_by phases used found
ended number phases used found (c ∷ last) = wrong number found

-- where phases may come too soon, by how much one did at most
abbrev pub used_of : Judged → Option ℕ
used_of j = if j.tolerance == 0 then None else Some j.early

-- The log

-- nothing said, or going on by what is said
abbrev pub OnEntry : Option LogEntry → ℕ → List ℕ → Answer → (LogEntry → Type 0) → Type 0
OnEntry None number found answer Goes = answer ≡ wrong number found
OnEntry (Some entry) number found answer Goes = Goes entry

-- after no breach the log goes on, and after one where all are asked for
abbrev pub OnBreach : Option LineBreach → Bool → ℕ → ℕ → List ℕ → Answer → (List ℕ → Type 0) → Type 0
OnBreach None all number lun found answer Goes = Goes found
OnBreach (Some b) true number lun found answer Goes = Goes (found ++ breach_text number lun b)
OnBreach (Some b) false number lun found answer Goes = answer ≡ broken (found ++ breach_text number lun b)

-- the answer to the lines of a log from that number on, after so many phases and lines of conditions that are broken
abbrev pub AnswersFrom : Readies → Bool → Judged → ℕ → ℕ → List ℕ → List (List ℕ) → Answer → Type 0
AnswersFrom readies all j number phases found [] answer = answer ≡ ended number phases (used_of j) found []
AnswersFrom readies all j number phases found (last ∷ []) answer = answer ≡ ended number phases (used_of j) found last
AnswersFrom readies all j number phases found (text ∷ next ∷ more) answer =
    OnEntry (entry_of readies text) number found answer (λ entry.
    (b : Option LineBreach) × (k : Judged) × Takes j entry b k
    × OnBreach b all number (lun_in entry) found answer (λ found'.
    AnswersFrom readies all k (number + 1) (phases + phases_in entry) found' (next ∷ more) answer))

-- the answer to a log that is taken in that manner
abbrev pub AnswersLogBy : Requests → Manner → Audit → Bool → List ℕ → Answer → Type 0
AnswersLogBy requests manner audit all text answer =
    (greatest : List ℕ) × IsFresh requests greatest
    × AnswersFrom manner.readies all (beginning requests manner audit greatest) 1 0 [] (parts 10 text) answer

-- the answer to a log of phases alone
abbrev pub AnswersLog : Requests → Audit → Bool → List ℕ → Answer → Type 0
AnswersLog requests audit all text answer = AnswersLogBy requests exact audit all text answer
