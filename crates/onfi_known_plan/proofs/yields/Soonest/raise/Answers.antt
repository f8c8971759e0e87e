use Rattle.std.proofs.Common.{arith, refl, ◌∙◌}
use Rattle.onfi_known_plan.proofs.yields.Soonest.raise.Goals as goal

pub returns-clause-kept : goal.returns-clause-kept
returns-clause-kept c = λ lun few no. let d = c.loop-own.invariant.done lun (omega (arith, few, c.loop-own-test.false)) in d ∙ rw no refl

pub returns-clause-raised : goal.returns-clause-raised
returns-clause-raised c = λ lun few yes fits.
    let d = c.loop-own.invariant.done lun (omega (arith, few, c.loop-own-test.false)) in
    let w = c.wait-behind.ensures fits in
    d ∙ rw (yes, w) refl

pub returns-clause-small : goal.returns-clause-small
returns-clause-small c = λ lun few. c.loop-own.invariant.small lun (omega (arith, few, c.loop-own-test.false))
