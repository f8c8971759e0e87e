use Rattle.std.proofs.Common.{sym, ◌∙◌}
use Rattle.onfi_schedule.specs.Breaks.{keeps_waits}
use Rattle.onfi_schedule.proofs.Found.{part_broken, is_broken}
use Rattle.onfi_schedule.proofs.finding.of_waits.Goals as goal

pub returns-then-is_some-clause-none : goal.returns-then-is_some-clause-none
returns-then-is_some-clause-none c =
    let n = rw (c.timing-timing.ensures, c.luns_and_groups.ensures.states, c.rest.ensures.value) at c.in_rest-breach.ensures.none in
    part_broken c.in_rest-breach.result _ _ (sym c.is_some.ensures ∙ c.if-is_some.true) n (λ h. h.rest_waits)

pub returns-then-is_some-clause-broken : goal.returns-then-is_some-clause-broken
returns-then-is_some-clause-broken c =
    let n = rw (c.timing-timing.ensures, c.luns_and_groups.ensures.states, c.rest.ensures.value) at c.in_rest-breach.ensures.none in
    is_broken c.args.problem.now.problem c.args.schedule.now keeps_waits c.in_rest-breach.result _ n (λ h. h.rest_waits) c.in_rest-breach.ensures.about

pub returns-clause-none : goal.returns-clause-none
returns-clause-none c =
    let rest = (rw (c.timing-timing.ensures, c.luns_and_groups.ensures.states, c.rest.ensures.value) at c.in_rest-breach.ensures.none).0 (sym c.is_some.ensures ∙ c.if-is_some.false) in
    let n = rw (c.timing-timing.ensures, c.groups.ensures.value) at c.in_groups.ensures.none in
    ((λ z. record { rest_waits = rest; groups_wait = n.0 z }), (λ h. n.1 h.groups_wait))

pub returns-clause-broken : goal.returns-clause-broken
returns-clause-broken c =
    let n = rw (c.timing-timing.ensures, c.groups.ensures.value) at c.in_groups.ensures.none in
    is_broken c.args.problem.now.problem c.args.schedule.now keeps_waits c.in_groups.result _ n (λ h. h.groups_wait) c.in_groups.ensures.about

pub returns-then-is_some-clause-told : goal.returns-then-is_some-clause-told
returns-then-is_some-clause-told c = c.in_rest-breach.ensures.told c.args.problem.now.problem c.args.schedule.now (sym c.timing-timing.ensures) (sym c.luns_and_groups.ensures.states) (sym c.rest.ensures.value)

pub returns-clause-told : goal.returns-clause-told
returns-clause-told c = c.in_groups.ensures.told c.args.problem.now.problem c.args.schedule.now (sym c.timing-timing.ensures) (sym c.groups.ensures.value)
