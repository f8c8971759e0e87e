use Rattle.std.proofs.Common.{sym, ◌∙◌}
use Rattle.onfi_calls.specs.Text.{gives_answer}
use Rattle.onfi_calls.proofs.text.onfi_text.Goals as goal

pub returns : goal.returns
returns c = gives_answer c.in-Some.asked (sym c.asked_for.ensures.value ∙ c.in-Some.is) c.give_answer.ensures
