use Rattle.std.proofs.Common.{◌∙◌, sym, arith}
use Rattle.onfi_planners.proofs.Costs.{weight_next, no_want}
use Rattle.onfi_planners.proofs.cost.weight_of.Goals as goal

pub loop-at-preserved : goal.loop-at-preserved
loop-at-preserved c = sym (weight_next c.args.wants.now c.args.weights.now c.args.id c.loop-at.at no_want c.loop-at-test.true (λ e. omega (arith, e, c.if-want-id.false))) ∙ c.loop-at.invariant
