use Rattle.std.proofs.Common.{sym, ◌∙◌}
use Rattle.onfi_schedule.proofs.Room.{few_starts}
use Rattle.onfi_schedule.specs.Breaks.{bus_is_free, no_overlap}
use Rattle.onfi_schedule.proofs.Found.{part_broken, is_broken}
use Rattle.onfi_schedule.proofs.finding.of_bus.Goals as goal

pub all_slots-slots-requires-clause-room : goal.all_slots-slots-requires-clause-room
all_slots-slots-requires-clause-room c =
    let p = c.args.problem.now.problem in
    let limits = c.bus_free-bus_free.ensures.limits in
    few_starts p.luns p.wants c.args.schedule.now limits.problem.ids limits.small.wants c.requires.shape

pub returns-then-is_some-clause-none : goal.returns-then-is_some-clause-none
returns-then-is_some-clause-none c =
    let n = rw (c.as_slice.ensures.value, c.all_slots-slots.ensures.phases, c.timing.ensures, c.luns_and_groups.ensures.states, c.bus_free-bus_free.ensures.value) at c.too_early-breach.ensures.none in
    part_broken c.too_early-breach.result _ _ (sym c.is_some.ensures ∙ c.if-is_some.true) n (λ h. h.from_bus_free)

pub returns-then-is_some-clause-broken : goal.returns-then-is_some-clause-broken
returns-then-is_some-clause-broken c =
    let n = rw (c.as_slice.ensures.value, c.all_slots-slots.ensures.phases, c.timing.ensures, c.luns_and_groups.ensures.states, c.bus_free-bus_free.ensures.value) at c.too_early-breach.ensures.none in
    is_broken c.args.problem.now.problem c.args.schedule.now bus_is_free c.too_early-breach.result _ n (λ h. h) c.too_early-breach.ensures.about

pub returns-clause-none : goal.returns-clause-none
returns-clause-none c =
    let free = (rw (c.as_slice.ensures.value, c.all_slots-slots.ensures.phases, c.timing.ensures, c.luns_and_groups.ensures.states, c.bus_free-bus_free.ensures.value) at c.too_early-breach.ensures.none).0 (sym c.is_some.ensures ∙ c.if-is_some.false) in
    let n = rw (c.as_slice-2.ensures.value, c.all_slots-slots.ensures.phases, c.timing.ensures, c.luns_and_groups.ensures.states) at c.overlap.ensures.none in
    ((λ z. record { from_bus_free = free; no_overlap = n.0 z }), (λ h. n.1 h.no_overlap))

pub returns-clause-broken : goal.returns-clause-broken
returns-clause-broken c =
    let n = rw (c.as_slice-2.ensures.value, c.all_slots-slots.ensures.phases, c.timing.ensures, c.luns_and_groups.ensures.states) at c.overlap.ensures.none in
    is_broken c.args.problem.now.problem c.args.schedule.now no_overlap c.overlap.result _ n (λ h. h) c.overlap.ensures.about
