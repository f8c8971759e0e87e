use Rattle.std.proofs.Common.{[], ◌∷◌, ◌++◌, Some, sym, subst, arith}
use Rattle.onfi_run.specs.Pace.{IsNext}
use Rattle.onfi_run.proofs.Resting.{next_due, next_same}
use Rattle.onfi_run.proofs.simulation.choose_sooner.Goals as goal

pub returns-then-due-now : goal.returns-then-due-now
returns-then-due-now c dues is = next_same c.args.now dues c.args.due c.args.other (λ later. omega (arith, later, c.if-due-now.true)) is

pub returns-then-due-ge-NO_CLOCK : goal.returns-then-due-ge-NO_CLOCK
returns-then-due-ge-NO_CLOCK c dues is = next_same c.args.now dues c.args.due c.args.other (λ later. c.if-due-ge-NO_CLOCK.true) is

pub returns : goal.returns
returns c dues is =
    subst (λ n. IsNext c.args.now (dues ++ c.args.due ∷ []) (Some n)) (sym c.least.ensures)
    (next_due c.args.now dues c.args.due c.args.other (omega (arith, c.if-due-now.false)) (omega (arith, c.if-due-ge-NO_CLOCK.false)) is)
