-- The answer to a script with a log whose pieces are planned anew.
use Rattle.std.specs.Prelude.{◌≡◌, ◌≢◌, ◌<◌, ℕ, List, Option, Ok, Err}
use Rattle.onfi_group.specs.Words.{Pairs}
use Rattle.onfi_audit.specs.Audit.{Audit}
use Rattle.onfi_log.specs.declared.requests.Requests.{Requests}
use Rattle.onfi_log.specs.Text.{Answer as LogAnswer, AnswersLog}
use Rattle.onfi_gap.specs.declared.piece.Piece.{Piece}
use Rattle.onfi_gap.specs.declared.whole.LogBound.{LogBound}
use Rattle.onfi_gap.specs.Pieces.{AreMeasured}
use Rattle.onfi_gap.specs.Text.{Writes}
use Rattle.onfi_gap.specs.Whole.{HasBound, whole_of}
use Rattle.onfi_script.specs.declared.auditing.GapOptions.{GapOptions}
use Rattle.onfi_script.specs.declared.fault.Refusal.{Refusal}
use Rattle.onfi_script.specs.Auditing.{TellsLog}
use Rattle.onfi_script.specs.Script.{plan_text_of}
use Rattle.onfi_script.specs.Text.{Answer, refused}

-- the answer to a log of that opening: what is reported of it where it isn't legal, else its pieces by rising line, and what no schedule of
-- its requests passes
pub data AnswersMeasured (options : GapOptions) (a : Audit) (requests : Requests) (text : List ℕ) (answer : Answer) : Type 0 where
  is_broken : (log : LogAnswer) → AnswersLog requests a options.all text log → log.status ≢ 0
      → answer ≡ (record { text = log.text; status = log.status }) → AnswersMeasured options a requests text answer
  is_measured : (log : LogAnswer) (pieces : List Piece) (bound : Option LogBound) → AnswersLog requests a options.all text log → log.status ≡ 0
      → AreMeasured a requests options.limit text pieces → Pairs (λ p q. p.line < q.line) pieces → HasBound a.timing a.rules (whole_of a requests text) bound
      → Writes options.csv log pieces bound answer.text → answer.status ≡ 0 → AnswersMeasured options a requests text answer

-- .. to an input: why its script is refused, or that to its log
pub data AnswersGaps (options : GapOptions) (input : List ℕ) (answer : Answer) : Type 0 where
  is_unread : (refusal : Refusal) → TellsLog input (Err refusal) → answer ≡ refused refusal → AnswersGaps options input answer
  is_read : (a : Audit) (requests : Requests) → TellsLog input (Ok (a, requests)) → AnswersMeasured options a requests (plan_text_of input) answer
      → AnswersGaps options input answer
