use Rattle.std.proofs.Common.{◌↔◌, drop}
use Rattle.std.specs.List.{AllByRecursion as All}
use Rattle.onfi_schedule.specs.Schedule.{Apart}
use Rattle.onfi_schedule.specs.Slots.{phases_in}
use Rattle.onfi_schedule.proofs.bus.find_overlap.Given as goal

abbrev pub invariant-loop-other : goal.invariant-loop-other
invariant-loop-other l = All (Apart l.slot.phase) (phases_in (drop l.other-index l.others)) ↔ All (Apart l.slot.phase) (phases_in l.others)
