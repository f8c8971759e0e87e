use Rattle.std.proofs.Common.{◌≡◌, ◌+◌, ◌++◌, length, drop}
use Rattle.arrayvec.specs.ArrayVec.{array_vec_len}
use Rattle.onfi_group.specs.Group.{group_spans}
use Rattle.onfi_schedule.specs.Schedule.{phases_from}
use Rattle.onfi_schedule.specs.Names.{named_from}
use Rattle.onfi_schedule.specs.Slots.{phases_in, named_in}
use Rattle.onfi_schedule.proofs.slots.push_work.Given as goal

abbrev pub invariant-loop-start : goal.invariant-loop-start
invariant-loop-start _ l =
    let w = l.work in
    let spans = group_spans w.timing.now l.members in
    record {
      number : l.number ≡ w.next + l.start-index;
      len : array_vec_len l.slots ≡ array_vec_len l.initial.slots + l.start-index;
      phases : phases_in l.slots.items ++ phases_from w.lun spans (length l.members) l.number (drop l.start-index l.starts) ≡ phases_in l.initial.slots.items ++ phases_from w.lun spans (length l.members) w.next l.starts;
      named : named_in l.slots.items ++ named_from w.next w.lun spans l.members l.number (drop l.start-index l.starts) ≡ named_in l.initial.slots.items ++ named_from w.next w.lun spans l.members w.next l.starts;
    }
