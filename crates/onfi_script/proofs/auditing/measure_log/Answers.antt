use Rattle.std.proofs.Common.{ap, subst, sym}
use Rattle.onfi_log.specs.Text.{answer_of as log_answer_of}
use Rattle.onfi_script.specs.Gaps.{AnswersMeasured}
use Rattle.onfi_script.proofs.Gaps.{answered}
use Rattle.onfi_script.proofs.auditing.measure_log.Goals as goal

pub returns : goal.returns
returns c =
    let a = c.args in
    let gaps = c.in_ok-gaps.gaps in
    let said = c.in_ok-gaps.ensures in
    let answer = c.in_ok-written.written in
    let written = c.in_ok-written.ensures in
    subst (AnswersMeasured a.options a.audit a.requests a.log.now) (sym c.of.ensures)
    (answered a.options a.audit a.requests a.log.now (log_answer_of gaps.answer) gaps.pieces.items gaps.bound (record { text = answer.text.items; status = answer.status })
    said.answer said.measured said.rising said.bound written.legal (λ n. let same = written.illegal n in cc) written.status)
