use Rattle.std.proofs.Common.{sym, ◌∙◌}
use Rattle.onfi_schedule.proofs.finding.of_shape.Goals as goal

pub returns-then-is_some-clause-told : goal.returns-then-is_some-clause-told
returns-then-is_some-clause-told c = c.lun_count-breach.ensures.told c.args.problem.now.problem c.args.schedule.now (sym c.lun_count.ensures.value) (sym c.rest.ensures.value)

pub returns-then-is_some-3-clause-told : goal.returns-then-is_some-3-clause-told
returns-then-is_some-3-clause-told c = c.start_count-breach.ensures.told c.args.problem.now.problem c.args.schedule.now (sym c.groups-groups.ensures.value)

pub returns-then-is_some-4-clause-told : goal.returns-then-is_some-4-clause-told
returns-then-is_some-4-clause-told c = c.find_unknown-breach.ensures.told c.args.problem.now.problem c.args.schedule.now (sym (c.as_slice.ensures.value ∙ c.waiting_wants-wants.ensures)) (sym c.groups-groups.ensures.value)

pub returns-clause-told : goal.returns-clause-told
returns-clause-told c = c.missing_or_repeated.ensures.told c.args.problem.now.problem c.args.schedule.now (sym (c.as_slice-2.ensures.value ∙ c.waiting_wants-wants.ensures)) (sym c.groups-groups.ensures.value)

pub returns-then-is_some-2-clause-told : goal.returns-then-is_some-2-clause-told
returns-then-is_some-2-clause-told c = c.rest_count-breach.ensures.told c.args.problem.now.problem c.args.schedule.now c.requires (sym c.luns_and_groups.ensures.states) (sym c.rest-2.ensures.value)
