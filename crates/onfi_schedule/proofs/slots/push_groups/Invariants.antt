use Rattle.std.proofs.Common.{◌≡◌, ◌+◌, ◌≤◌, ◌++◌, drop}
use Rattle.std.specs.List.{flat_map}
use Rattle.arrayvec.specs.ArrayVec.{array_vec_len}
use Rattle.onfi_schedule.specs.Schedule.{group_phases}
use Rattle.onfi_schedule.specs.Conditions.{start_count}
use Rattle.onfi_schedule.specs.Names.{named_group}
use Rattle.onfi_schedule.specs.Slots.{phases_in, named_in}
use Rattle.onfi_schedule.proofs.slots.push_groups.Given as goal

abbrev pub invariant-loop-group : goal.invariant-loop-group
invariant-loop-group l = record {
  room : array_vec_len l.slots + start_count (drop l.group-index l.groups) ≤ 80;
  phases : phases_in l.slots.items ++ flat_map (group_phases l.timing) (drop l.group-index l.groups) ≡ phases_in l.initial.slots.items ++ flat_map (group_phases l.timing) l.groups;
  named : named_in l.slots.items ++ flat_map (named_group l.timing) (drop l.group-index l.groups) ≡ named_in l.initial.slots.items ++ flat_map (named_group l.timing) l.groups;
}
