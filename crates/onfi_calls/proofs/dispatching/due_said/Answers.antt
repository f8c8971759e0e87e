use Rattle.std.proofs.Common.{arith, inr, refl}
use Rattle.onfi_steady.specs.Dispatcher.{states_of}
use Rattle.onfi_calls.proofs.Dispatched.{phase_outside, phase_said}
use Rattle.onfi_calls.proofs.dispatching.due_said.Goals as goal

pub returns-in-Some-plain_phase-clause-phase : goal.returns-in-Some-plain_phase-clause-phase
returns-in-Some-plain_phase-clause-phase c = (
  omega (arith, c.if-start-ge-LATE.false),
  λ timing books next is due. (
    c.read.result,
    c.read.ensures,
    phase_said timing c.read.result (states_of c.args.kept.now.dispatcher) next.lun next.members.items c.args.start c.in-Some.due c.in-Some-plain_phase.phase
        (c.in-Some.ensures.due timing books next is due) (c.in-Some-plain_phase.ensures.some timing),
  ),
)

pub returns-in-None-clause-none : goal.returns-in-None-clause-none
returns-in-None-clause-none c = inr (λ timing books next is due. (
  c.read.result,
  c.read.ensures,
  phase_outside timing c.read.result (states_of c.args.kept.now.dispatcher) next.lun next.members.items c.in-Some.due
      (c.in-Some.ensures.due timing books next is due) (c.in-None.ensures.none timing),
  refl,
))
