use Rattle.std.proofs.Common.{ℕ, Option, subst}
use Rattle.onfi_problem.specs.Position.{moves_of}
use Rattle.onfi_check.specs.Ends.{IsLastEnd}
use Rattle.onfi_planner.proofs.Deciding.{decided}
use Rattle.onfi_planner.proofs.yields.decide.Goals as goal

pub returns-in-Some : goal.returns-in-Some
returns-in-Some c =
    let x = c.args.problem.now in
    let w = c.in-Some.ensures in
    let last = subst (λ (z : Option ℕ). IsLastEnd x.problem (moves_of x.groups c.args.moves.now) c.in-Some.lun z) w.3.1 (c.requires.ends c.in-Some.lun w.0) in
    decided x.problem (moves_of x.groups c.args.moves.now) c.args.yields.now c.args.awaited.now c.requires.so_far c.args.own c.in-Some.lun w.3.0 c.may_go.result c.requires.small w.0 w.1 w.2 c.if-awaited-own.false last w.3.2 c.may_go.ensures.value
