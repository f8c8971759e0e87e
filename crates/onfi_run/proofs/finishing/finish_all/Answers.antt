use Rattle.std.proofs.Common.{◌∙◌}
use Rattle.std.proofs.lemmas.Result.{IfOk-weaker}
use Rattle.onfi_run.proofs.finishing.finish_all.Goals as goal

pub returns-clause-short : goal.returns-clause-short
returns-clause-short g c = IfOk-weaker c.gather.result _ _ (λ r told was. told (c.is_any_short-short_of_memory.ensures ∙ was)) c.gather.ensures.short
