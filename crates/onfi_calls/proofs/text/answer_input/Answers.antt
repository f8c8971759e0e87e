use Rattle.std.proofs.Common.{sym, subst}
use Rattle.std.specs.Prelude.{IfSome}
use Rattle.onfi_calls.specs.Text.{IsAnswerTo, answer_of}
use Rattle.onfi_calls.specs.declared.words.Asked.{Asked}
use Rattle.onfi_calls.proofs.Texts.{log_answered}
use Rattle.onfi_calls.proofs.text.answer_input.Goals as goal

pub returns-in-Audit : goal.returns-in-Audit
returns-in-Audit c =
    subst (λ (a : Asked). IfSome c.answer_log.result (λ z. IsAnswerTo a c.args.input.now (answer_of z))) (sym c.in-Audit.is)
    (log_answered c.in-Audit.options c.args.input.now c.answer_log.result c.answer_log.ensures)
