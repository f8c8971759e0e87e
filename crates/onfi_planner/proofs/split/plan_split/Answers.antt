use Rattle.std.proofs.Common.{subst}
use Rattle.std.proofs.lemmas.Result.{err_from_is_err_and}
use Rattle.onfi_problem.specs.Position.{Position}
use Rattle.onfi_check.specs.Nodes.{IsSplitOver}
use Rattle.onfi_planner.proofs.split.plan_split.Goals as goal

pub returns-in_err-search_parts-clause-over : goal.returns-in_err-search_parts-clause-over
returns-in_err-search_parts-clause-over g c =
    let p = err_from_is_err_and c.from_residual-in_err-search_parts.result c.from_residual-in_err-search_parts.ensures.1 in
    rw (p.1, p.2) (λ n e. subst (λ (z : Position). IsSplitOver z.problem c.args.limit n) c.in_ok-root.ensures.same (c.in_err-search_parts.ensures.over n e))
