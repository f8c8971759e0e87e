use Rattle.onfi_die.proofs.Order.{rule_kept}
use Rattle.onfi_die.proofs.laws.order_keeps_the_rule.Goals as goal

pub returns : goal.returns
returns c = rule_kept
