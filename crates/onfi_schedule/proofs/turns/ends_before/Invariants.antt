use Rattle.std.proofs.Common.{◌↔◌, drop}
use Rattle.onfi_schedule.specs.Slots.{phases_in, EndsFirst}
use Rattle.onfi_schedule.proofs.turns.ends_before.Given as goal

abbrev pub invariant-loop-other : goal.invariant-loop-other
invariant-loop-other l = EndsFirst l.slot.phase (phases_in (drop l.other-index l.others)) ↔ EndsFirst l.slot.phase (phases_in l.others)
