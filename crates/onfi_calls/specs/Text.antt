-- What a caller is given for the bytes of a script.
use Rattle.std.specs.Prelude.{◌≡◌, ◌⊎◌, ℕ, List, Some, None}
use Rattle.onfi_script.specs.Answer.{IsAnswer}
use Rattle.onfi_script.specs.Auditing.{AnswersAuditBy}
use Rattle.onfi_script.specs.Text.{Answer, memory}
use Rattle.onfi_calls.specs.Room.{Gives}
use Rattle.onfi_calls.specs.Status.{number_of}
use Rattle.onfi_calls.specs.Words.{asked_for}
use Rattle.onfi_calls.specs.declared.status.Status.TheVariants.{BadWords}
use Rattle.onfi_calls.specs.declared.text.Answered.{Answered}
use Rattle.onfi_calls.specs.declared.words.Asked.{Asked}
use Rattle.onfi_calls.specs.declared.words.Asked.TheVariants as asked

-- what is answered, as an answer of the definitions
abbrev pub answer_of : Answered → Answer
answer_of a = record { text = a.text.items; status = a.status }

-- the program's answer to an input, or to a log, or that memory ran out
abbrev pub IsAnswerTo : Asked → List ℕ → Answer → Type 0
IsAnswerTo (asked.Answer command) input answer = IsAnswer command input answer
IsAnswerTo (asked.Audit options) input answer = (answer ≡ memory) ⊎ AnswersAuditBy options input answer

-- a caller is given that answer, in a room of these bytes before and after
pub record GivesAnswer (asked : Asked) (input old new : List ℕ) (bytes result : ℕ) : Type 0 where
  pub answer : Answer
  pub is_answer : IsAnswerTo asked input answer
  pub gives : Gives answer.text answer.status old new bytes result

-- .. to what the words ask for; or a number alone says that they ask for nothing
pub data GivesText (words input old new : List ℕ) (bytes result : ℕ) : Type 0 where
  gives_answer : (asked : Asked) → asked_for words ≡ Some asked → GivesAnswer asked input old new bytes result → GivesText words input old new bytes result
  asks_nothing : asked_for words ≡ None → bytes ≡ 0 → new ≡ old → result ≡ number_of BadWords → GivesText words input old new bytes result
