use Rattle.std.proofs.Common.{subst, sym}
use Rattle.onfi_problem.specs.Moves.{AreMoves, IsMove}
use Rattle.onfi_problem.specs.Position.{moves_of}
use Rattle.onfi_problem.specs.Starts.{IsNamed}
use Rattle.std.specs.List.{AllByRecursion as All}
use Rattle.onfi_steady.proofs.Placing.{elsewhere_more, found_start, kept_at, move_at}
use Rattle.onfi_steady.proofs.dispatch.start_of.Goals as goal

pub loop-m-init : goal.loop-m-init
loop-m-init c = tt

pub is_start-requires-clause-step : goal.is_start-requires-clause-step
is_start-requires-clause-step c =
    let x = c.args.problem.now in
    let items = c.as_slice-m-items.result.now in
    let are = subst (λ z. AreMoves x.problem (moves_of x.groups z)) (sym c.as_slice-m-items.ensures.value) c.list_steps.ensures.moves in
    move_at (IsMove x.problem) x.groups items c.loop-m.m-index are.moves_only c.loop-m-test.true

pub loop-m-preserved : goal.loop-m-preserved
loop-m-preserved c = elsewhere_more c.args.problem.now.groups c.args.members.now c.as_slice-m-items.result.now c.loop-m.m-index c.loop-m.invariant c.loop-m-test.true (c.is_start.ensures.no c.if-is_start.false)

pub returns-then-is_start-clause-named : goal.returns-then-is_start-clause-named
returns-then-is_start-clause-named c =
    let x = c.args.problem.now in
    kept_at (IsNamed x.groups) c.as_slice-m-items.result.now c.loop-m.m-index (subst (All (IsNamed x.groups)) (sym c.as_slice-m-items.ensures.value) c.list_steps.ensures.named) c.loop-m-test.true

pub returns-clause-step : goal.returns-clause-step
returns-clause-step c =
    let x = c.args.problem.now in
    let are = subst (λ z. AreMoves x.problem (moves_of x.groups z)) (sym c.as_slice-m-items.ensures.value) c.list_steps.ensures.moves in
    absurd (found_start x c.args.members.now c.as_slice-m-items.result.now c.loop-m.m-index are c.requires c.loop-m-test.false c.loop-m.invariant)

pub returns-clause-named : goal.returns-clause-named
returns-clause-named c =
    let x = c.args.problem.now in
    let are = subst (λ z. AreMoves x.problem (moves_of x.groups z)) (sym c.as_slice-m-items.ensures.value) c.list_steps.ensures.moves in
    absurd (found_start x c.args.members.now c.as_slice-m-items.result.now c.loop-m.m-index are c.requires c.loop-m-test.false c.loop-m.invariant)
