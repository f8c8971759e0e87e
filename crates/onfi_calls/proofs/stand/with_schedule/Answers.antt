use Rattle.std.proofs.Common.{sym, ap, ◌∙◌}
use Rattle.onfi_calls.specs.ReadSchedule.{schedule_of}
use Rattle.onfi_calls.proofs.stand.with_schedule.Goals as goal

pub returns-clause-good : goal.returns-clause-good
returns-clause-good c = (
  sym c.is_bad_schedule.ensures ∙ c.if-is_bad_schedule.false,
  c.schedule_of-schedule.ensures ∙ ap (λ wants. schedule_of wants c.args.schedule.now) (c.wants.ensures.value ∙ c.requires),
)
