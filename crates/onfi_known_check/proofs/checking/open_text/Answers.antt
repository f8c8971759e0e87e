use Rattle.std.proofs.Common.{rules, ◌∙◌}
use Rattle.onfi_known_check.proofs.Reading.{begins, few_ahead}
use Rattle.onfi_known_check.proofs.checking.open_text.Goals as goal

pub returns-in-Some-clause-text : goal.returns-in-Some-clause-text
returns-in-Some-clause-text c = begins _ c.in-Some.ensures.some (search rules) (c.of.ensures.source ∙ c.new.ensures)

pub returns-in-Some-clause-few : goal.returns-in-Some-clause-few
returns-in-Some-clause-few c = few_ahead (begins _ c.in-Some.ensures.some (search rules) (c.of.ensures.source ∙ c.new.ensures))
