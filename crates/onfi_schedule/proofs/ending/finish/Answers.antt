use Rattle.onfi_schedule.proofs.LegalIs.{few_starts_of}
use Rattle.onfi_schedule.proofs.ending.finish.Goals as goal

pub all_slots-slots-requires-clause-room : goal.all_slots-slots-requires-clause-room
all_slots-slots-requires-clause-room c = few_starts_of c.args.problem.now.problem c.args.schedule.now c.bus_free-bus_free.ensures.limits c.requires
