use Rattle.std.proofs.Common.{sym, ◌∙◌}
use Rattle.onfi_schedule.proofs.finding.of_block_order.Goals as goal

pub returns-clause-told : goal.returns-clause-told
returns-clause-told c =
    c.wrong_order.ensures.told c.args.problem.now.problem c.args.schedule.now (sym c.timing.ensures) (sym c.groups.ensures.value) (sym (c.as_slice.ensures.value ∙ c.waiting_wants-wants.ensures))
