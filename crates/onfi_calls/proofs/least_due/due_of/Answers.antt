use Rattle.std.proofs.Common.{Some, ap, ◌∙◌, refl, subst}
use Rattle.std.specs.Prelude.{IfSome, Option}
use Rattle.onfi_flight.specs.Turns.{IsTurn}
use Rattle.onfi_calls.specs.declared.least.Least.{Least}
use Rattle.onfi_calls.specs.InOrder.{turn_of}
use Rattle.onfi_calls.specs.Problem.{wants_of}
use Rattle.onfi_calls.specs.ReadSchedule.{schedule_of}
use Rattle.onfi_calls.proofs.least_due.due_of.Goals as goal

pub returns-in-Next : goal.returns-in-Next
returns-in-Next c = λ timing.
    let s = schedule_of (wants_of c.args.rules.now.plane_bits c.args.wants.now) c.args.schedule.now in
    let least = c.least_start.ensures (wants_of c.args.rules.now.plane_bits c.args.wants.now) in
    let is = subst (λ (o : Option Least). IfSome o (λ t. IsTurn s.rest s.groups (turn_of t))) (c.in_ok-next.was ∙ ap Some c.in-Next.is) least in
    c.next_due.ensures _ refl refl is

pub returns-in-First : goal.returns-in-First
returns-in-First c = λ timing.
    let s = schedule_of (wants_of c.args.rules.now.plane_bits c.args.wants.now) c.args.schedule.now in
    let least = c.least_start.ensures (wants_of c.args.rules.now.plane_bits c.args.wants.now) in
    let is = subst (λ (o : Option Least). IfSome o (λ t. IsTurn s.rest s.groups (turn_of t))) (c.in_ok-next.was ∙ ap Some c.in-First.is) least in
    c.first_due.ensures timing is
