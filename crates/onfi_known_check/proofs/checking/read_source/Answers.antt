use Rattle.std.proofs.Common.{◌∙◌, subst}
use Rattle.onfi_problem.specs.Problem.{IsProblem, IsSmall}
use Rattle.onfi_problem.specs.Position.{Position}
use Rattle.onfi_known_check.specs.Proves.{ProvesTokens}
use Rattle.onfi_known_check.proofs.Sound.{proved_is_below}
use Rattle.onfi_known_check.proofs.checking.read_source.Goals as goal

pub returns-clause-least : goal.returns-clause-least
returns-clause-least g c =
    let x = c.args.problem.now in
    let same = c.in_ok-read_whole.ensures.problem ∙ c.in-Ok.ensures in
    let kept = subst (λ (z : Position). IsProblem z.problem) (c.copy-2.view_is ∙ same) c.copy-2.invariant.0.limits.problem in
    let small = subst (λ (z : Position). IsSmall z.problem) (c.copy-2.view_is ∙ same) c.copy-2.invariant.0.limits.small in
    let accepted = subst (λ (z : Position). ProvesTokens z.all (g.S.TokenSource.left c.args.tokens.now.source) z.problem c.args.e) c.in-Ok.ensures c.in_ok-read_whole.ensures.ok in
    proved_is_below x.all x.problem (g.S.TokenSource.left c.args.tokens.now.source) c.args.e kept small accepted
