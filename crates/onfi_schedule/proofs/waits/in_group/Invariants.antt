use Rattle.std.proofs.Common.{◌≡◌, ℕ, ◌+◌, ◌↔◌, length, drop, get_or}
use Rattle.onfi_timing.specs.Phases.{phase_length, wait_before}
use Rattle.onfi_group.specs.Group.{group_spans}
use Rattle.onfi_schedule.specs.Schedule.{InOrder}
use Rattle.onfi_schedule.proofs.waits.in_group.Given as goal

abbrev pub invariant-loop-start : goal.invariant-loop-start
invariant-loop-start l =
    let k = length l.members in
    let n = l.work.next in
    let spans = group_spans l.work.timing.now l.members in
    record {
      number : l.number ≡ n + l.start-index;
      rest : InOrder spans k l.number l.floor (drop l.start-index l.starts) ↔ InOrder spans k n l.fn.floor l.starts;
      first : l.start-index ≡ 0 → l.floor ≡ l.fn.floor;
      behind : (i : ℕ) → l.start-index ≡ i + 1 → l.floor ≡ get_or l.starts i 0 + phase_length spans k (n + i) + wait_before spans k (n + i + 1);
    }
