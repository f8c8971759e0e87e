use Rattle.std.proofs.Common.{◌≡◌, ◌≤◌, ◌*◌, ◌++◌, drop}
use Rattle.std.specs.List.{AllByRecursion as All}
use Rattle.arrayvec.specs.ArrayVec.{array_vec_len}
use Rattle.onfi_schedule.specs.Schedule.{rest_phases}
use Rattle.onfi_schedule.specs.Conditions.{states_of, Names}
use Rattle.onfi_schedule.specs.Names.{named_rest}
use Rattle.onfi_schedule.specs.Slots.{phases_in, named_in}
use Rattle.onfi_schedule.proofs.slots.push_rest.Given as goal

abbrev pub invariant-loop-at : goal.invariant-loop-at
invariant-loop-at l = record {
  named : All (Names l.table) (drop l.at l.luns);
  len : array_vec_len l.slots ≤ 8 * l.at;
  phases : phases_in l.slots.items ++ rest_phases l.timing l.at (states_of l.table (drop l.at l.luns)) (drop l.at l.rest) ≡ phases_in l.initial.slots.items ++ rest_phases l.timing 0 (states_of l.table l.luns) l.rest;
  names : named_in l.slots.items ++ named_rest l.timing l.at (states_of l.table (drop l.at l.luns)) (drop l.at l.rest) ≡ named_in l.initial.slots.items ++ named_rest l.timing 0 (states_of l.table l.luns) l.rest;
}
