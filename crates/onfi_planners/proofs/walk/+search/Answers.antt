use Rattle.std.proofs.Common.{◌≡◌, get_or, sym, ap, subst, arith}
use Rattle.std.proofs.lemmas.Bool.{eqb-true}
use Rattle.onfi_problem.specs.Moves.{after}
use Rattle.onfi_problem.specs.declared.moves.Move.TheVariants.{Next}
use Rattle.onfi_problem.specs.Position.{Position, move_of}
use Rattle.onfi_bound.proofs.BusWork.{work_after}
use Rattle.onfi_planner.specs.Planning.{work}
use Rattle.onfi_known_plan.specs.Steps.{IsStep}
use Rattle.onfi_known_plan.proofs.Steps.{step_at}
use Rattle.onfi_planners.specs.Steps.{IsWalk}
use Rattle.onfi_planners.proofs.Found.{at_end, walk_moved}
use Rattle.onfi_planners.proofs.walk.+search.Goals as goal

pub search-returns-clause-found : goal.search-returns-clause-found
search-returns-clause-found t c =
    at_end c.args.problem.now c.list_steps.new.moves c.args.best.now _ c.bus_free-bus_free.ensures.limits c.list_steps.ensures.moves (eqb-true _ _ (sym c.if-not-is_empty.ensures)) c.bus_free-bus_free.ensures.value c.bus_free-bus_free.ensures.small c.clear.ensures.items

pub search_children-visit-requires : goal.search_children-visit-requires
search_children-visit-requires t c =
    let x = c.args.problem.now in
    let items = c.as_slice-listed.result.now in
    let e = sym c.loop.invariant.problem in
    let step = step_at x c.args.moves.now items c.in-Some.at (Next 0) c.as_slice-listed.ensures.value c.requires.moves c.requires.named c.in-Some.ensures in
    let w : work c.loop.problem.problem ≡ work x.problem = ap (λ (z : Position). work z.problem) c.loop.invariant.problem in
    (omega (arith, c.decreases, w), (subst (λ (z : Position). IsWalk z c.args.guide.now.loads) e c.requires.walk, subst (λ (z : Position). IsStep z (get_or items c.in-Some.at (Next 0))) e step))

pub visit-search-requires : goal.visit-search-requires
visit-search-requires t c =
    let x = c.args.problem.now in
    let m = move_of x.groups c.args.step in
    let less = work_after x.problem m c.requires.walk.limits.problem c.requires.step.move in
    let w : work c.advance-undo.new.self.problem ≡ work (after x.problem m) = ap (λ (z : Position). work z.problem) c.advance-undo.ensures.moved in
    (omega (arith, c.decreases, w, less), subst (λ (z : Position). IsWalk z c.args.guide.now.loads) (sym c.advance-undo.ensures.moved) (walk_moved x c.args.step c.args.guide.now.loads c.requires.step c.requires.walk))
