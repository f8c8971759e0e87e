use Rattle.std.proofs.Common.{sym}
use Rattle.onfi_schedule.proofs.finding.of_groups.Goals as goal

pub returns-clause-told : goal.returns-clause-told
returns-clause-told c = c.no_group.ensures.told c.args.problem.now.problem c.args.schedule.now (sym c.rules.ensures) (sym c.groups.ensures.value)
