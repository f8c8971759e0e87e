-- From what was written to what was answered.
use Rattle.std.proofs.Common.{◌≡◌, ℕ, List, [], Option, None, Some, sym, ap, ◌∙◌, ◌++◌, subst, inl, inr, refl}
use Rattle.std.specs.Prelude.{IfSome}
use Rattle.onfi_script.specs.Answer.{Answers, IsAnswer}
use Rattle.onfi_script.specs.Auditing.{AnswersAuditBy}
use Rattle.onfi_script.specs.declared.auditing.AuditOptions.{AuditOptions}
use Rattle.onfi_script.specs.Text.{Answer, memory}
use Rattle.onfi_script.specs.declared.command.Command.{Command}
use Rattle.onfi_calls.specs.Room.{Gives}
use Rattle.onfi_calls.specs.Text.{GivesAnswer, IsAnswerTo, answer_of}
use Rattle.onfi_calls.specs.declared.text.Answered.{Answered}
use Rattle.onfi_calls.specs.declared.words.Asked.{Asked}
use Rattle.onfi_calls.specs.declared.words.Asked.TheVariants as asked

abbrev with : List ℕ → ℕ → Answer
with text status = record { text = text; status = status }

same_answer : (a : Answer) (text : List ℕ) (status : ℕ) → text ≡ a.text → a.status ≡ status → a ≡ with text status
same_answer a text status t s = ap (λ x. with x a.status) (sym t) ∙ ap (λ x. with text x) s

-- what was written into an empty list is the answer
pub written_is_answer : (command : Command) (script old text : List ℕ) (status : ℕ) → old ≡ [] → Answers command (Some script) (Some old) (Some text) status → IsAnswer command script (with text status)
written_is_answer command script old text status e (a, is, s, t) = subst (IsAnswer command script) (same_answer a text status (subst (λ xs. text ≡ xs ++ a.text) e t) s) is

-- that memory ran out is an answer to anything that is asked
pub memory_is_answer : (a : Asked) (input old new : List ℕ) (bytes result : ℕ) → Gives memory.text memory.status old new bytes result → GivesAnswer a input old new bytes result
memory_is_answer (asked.Answer command) input old new bytes result g = record { answer = memory; is_answer = inl refl; gives = g }
memory_is_answer (asked.Audit options) input old new bytes result g = record { answer = memory; is_answer = inl refl; gives = g }

-- what is reported of a log is the answer that is asked for
pub log_answered : (options : AuditOptions) (input : List ℕ) (o : Option Answered) → IfSome o (λ a. AnswersAuditBy options input (answer_of a))
    → IfSome o (λ a. IsAnswerTo (asked.Audit options) input (answer_of a))
log_answered options input None is = tt
log_answered options input (Some a) is = inr is
