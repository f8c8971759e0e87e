use Rattle.onfi_planners.proofs.improving.make_schedule.Goals as goal

pub returns-clause-finish : goal.returns-clause-finish
returns-clause-finish c = c.schedule_of.ensures.finish c.args.best.now.finish (rw c.as_slice.ensures.value c.requires.run)
