-- The answer to a log, by what is written of its pieces.
use Rattle.std.proofs.Common.{◌≡◌, ◌≢◌, ◌<◌, ◌∙◌, ℕ, List, Option, inl, inr, arith}
use Rattle.std.specs.Prelude.{◌==◌}
use Rattle.std.proofs.lemmas.Bool.{cases_Bool}
use Rattle.std.proofs.lemmas.Bool.Decides.{nat_tests}
use Rattle.onfi_group.specs.Words.{Pairs}
use Rattle.onfi_audit.specs.Audit.{Audit}
use Rattle.onfi_log.specs.declared.requests.Requests.{Requests}
use Rattle.onfi_log.specs.Text.{Answer as LogAnswer, AnswersLog}
use Rattle.onfi_gap.specs.declared.piece.Piece.{Piece}
use Rattle.onfi_gap.specs.declared.whole.LogBound.{LogBound}
use Rattle.onfi_gap.specs.Pieces.{AreMeasured}
use Rattle.onfi_gap.specs.Text.{Writes}
use Rattle.onfi_gap.specs.Whole.{HasBound, whole_of}
use Rattle.onfi_script.specs.declared.auditing.GapOptions.{GapOptions}
use Rattle.onfi_script.specs.Gaps.{AnswersMeasured, is_broken, is_measured}
use Rattle.onfi_script.specs.Text.{Answer}

-- what is written of a legal log and of another is its answer
pub answered : (options : GapOptions) (a : Audit) (requests : Requests) (text : List ℕ) (log : LogAnswer) (pieces : List Piece) (bound : Option LogBound) (answer : Answer)
    → AnswersLog requests a options.all text log → (log.status ≡ 0 → AreMeasured a requests options.limit text pieces) → Pairs (λ p q. p.line < q.line) pieces
    → (log.status ≡ 0 → HasBound a.timing a.rules (whole_of a requests text) bound) → (log.status ≡ 0 → Writes options.csv log pieces bound answer.text)
    → (log.status ≢ 0 → answer ≡ (record { text = log.text; status = log.status })) → answer.status ≡ log.status
    → AnswersMeasured options a requests text answer
answered options a requests text log pieces bound answer said measured rising least written other status =
    elim (cases_Bool (log.status == 0)) [
      | inl t ↦ (let legal : log.status ≡ 0 = grind (arith, nat_tests) in is_measured log pieces bound said legal (measured legal) rising (least legal) (written legal) (status ∙ legal))
      | inr f ↦ (let illegal : log.status ≢ 0 = (λ e. let e' : log.status ≡ 0 = e in grind (arith, nat_tests)) in is_broken log said illegal (other illegal))
    ]
