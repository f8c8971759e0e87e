use Rattle.std.proofs.Common.{refl, sym, ◌∙◌, subst}
use Rattle.onfi_problem.specs.Problem.{IsProblem}
use Rattle.onfi_problem.specs.Position.{Position}
use Rattle.onfi_check.specs.Tree.{Accepts, AcceptsTokens}
use Rattle.onfi_check.proofs.Sound.{certified}
use Rattle.onfi_check.proofs.checking.check_source.Goals as goal

pub returns-clause-optimal : goal.returns-clause-optimal
returns-clause-optimal g c =
    let x = c.args.problem.now in
    let same = c.in_ok-read_whole.ensures.problem ∙ c.in-Ok.ensures in
    let kept = subst (λ (z : Position). IsProblem z.problem) (c.copy-2.view_is ∙ same) c.copy-2.invariant.0.limits.problem in
    let accepted = subst (λ (z : Position). AcceptsTokens (g.S.TokenSource.left c.args.tokens.now.source) z.problem c.finish-e.result) c.in-Ok.ensures c.in_ok-read_whole.ensures.ok in
    let legal = c.if-not-legal.ensures.0 refl in
    let e = c.finish-e.ensures in
    (certified x.problem c.args.schedule.now accepted.0 kept legal (subst (Accepts accepted.0 x.problem) e accepted.2), sym e)
