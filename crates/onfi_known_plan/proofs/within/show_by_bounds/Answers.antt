use Rattle.std.proofs.Common.{refl, ap, ◌∙◌, [], ◌∷◌, ◌++◌}
use Rattle.onfi_known_plan.proofs.Tree.{bounds_shown}
use Rattle.onfi_known_plan.proofs.within.show_by_bounds.Goals as goal

pub returns : goal.returns
returns c = bounds_shown c.args.problem.now c.args.finish c.in_ok-sought.sought _ c.in_ok-sought.ensures.sought c.in_ok-sought.ensures.found refl (c.in_ok-push.ensures.items ∙ ap (λ z. z ++ c.in_ok-sought.sought.closing.token ∷ []) c.new-tokens.ensures.items)
