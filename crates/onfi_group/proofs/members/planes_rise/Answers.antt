use Rattle.std.proofs.Common.{◌≡◌, ◌+◌, ◌-◌, arith, refl}
use Rattle.std.proofs.lemmas.Bool.{false≢true}
use Rattle.onfi_group.proofs.Rising.{rises_at, falls_at, last_rises}
use Rattle.onfi_group.proofs.members.planes_rise.Goals as goal

pub loop-at-preserved : goal.loop-at-preserved
loop-at-preserved c =
    let at = c.loop-at.at in
    let e : at + 1 - 1 ≡ at = omega arith in
    let step = rises_at (λ w. w.plane) c.args.members.now at _ c.loop-at.auto.at c.loop-at-test.true c.if-members-at.false in
    rw e ((λ r. c.loop-at.invariant.0 (step.1 r)), (λ r. step.0 (c.loop-at.invariant.1 r)))

pub returns : goal.returns
returns c = ((λ t. c.loop-at.invariant.0 (last_rises (λ w. w.plane) c.args.members.now c.loop-at.at c.loop-at.auto.at c.loop-at-test.false)), (λ r. refl))

pub returns-then-members-at : goal.returns-then-members-at
returns-then-members-at c =
    ((λ t. absurd (false≢true t)), (λ r. absurd (falls_at (λ w. w.plane) c.args.members.now c.loop-at.at _ c.loop-at.auto.at c.loop-at-test.true c.if-members-at.true (c.loop-at.invariant.1 r))))
