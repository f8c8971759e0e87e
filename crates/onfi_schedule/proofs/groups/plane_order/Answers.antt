use Rattle.std.proofs.Common.{◌≡◌, ◌+◌, ◌-◌, get_or, arith}
use Rattle.onfi_group.proofs.Rising.{rises_at, last_rises}
use Rattle.onfi_schedule.specs.Tells.{FallsBack}
use Rattle.onfi_schedule.proofs.Twos.{any_has}
use Rattle.onfi_schedule.proofs.Telling.{no_want, falls_back}
use Rattle.onfi_schedule.proofs.groups.plane_order.Goals as goal

pub returns-then-members-at-clause-told : goal.returns-then-members-at-clause-told
returns-then-members-at-clause-told c = λ p s starts there.
    let ms = c.args.members.now in
    let at = c.loop-at.at in
    any_has (FallsBack (get_or ms (at - 1) no_want).id (get_or ms at no_want).id) s.groups (record { members = ms; starts = starts }) there
    (falls_back ms at starts c.loop-at.auto.at c.loop-at-test.true c.if-members-at.true)

pub loop-at-preserved : goal.loop-at-preserved
loop-at-preserved c =
    let at = c.loop-at.at in
    let e : at + 1 - 1 ≡ at = omega arith in
    let step = rises_at (λ w. w.plane) c.args.members.now at _ c.loop-at.auto.at c.loop-at-test.true c.if-members-at.false in
    rw e ((λ r. c.loop-at.invariant.0 (step.1 r)), (λ r. step.0 (c.loop-at.invariant.1 r)))

pub returns-clause-none : goal.returns-clause-none
returns-clause-none c = λ none. c.loop-at.invariant.0 (last_rises (λ w. w.plane) c.args.members.now c.loop-at.at c.loop-at.auto.at c.loop-at-test.false)
