use Rattle.std.proofs.Common.{sym}
use Rattle.onfi_schedule.proofs.finding.of_turns.Goals as goal

pub returns-then-is_some-clause-told : goal.returns-then-is_some-clause-told
returns-then-is_some-clause-told c =
    c.running_not_over-breach.ensures.told c.args.problem.now.problem c.args.schedule.now (sym c.timing-timing.ensures) (sym c.luns_and_groups.ensures.states) (sym c.rest.ensures.value) (sym c.groups-groups.ensures.value)

pub returns-then-is_some-2-clause-told : goal.returns-then-is_some-2-clause-told
returns-then-is_some-2-clause-told c = c.lun_taken-breach.ensures.told c.args.problem.now.problem c.args.schedule.now (sym c.timing-timing.ensures) (sym c.groups-groups.ensures.value)

pub returns-clause-told : goal.returns-clause-told
returns-clause-told c = c.lun_not_free.ensures.told c.args.problem.now.problem c.args.schedule.now (sym c.luns_and_groups.ensures.states) (sym c.groups-groups.ensures.value)
