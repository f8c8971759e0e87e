use Rattle.std.proofs.Common.{◌≡◌, ◌≤◌, ◌++◌, drop}
use Rattle.arrayvec.specs.ArrayVec.{array_vec_len}
use Rattle.onfi_problem.specs.Position.{waiting_of}
use Rattle.onfi_schedule.proofs.finding.waiting_wants.Given as goal

abbrev pub invariant-loop-at : goal.invariant-loop-at
invariant-loop-at l = record {
  few : array_vec_len l.wants ≤ l.at;
  wants : l.wants.items ++ waiting_of (drop l.at l.waiting) (drop l.at l.want-items) ≡ waiting_of l.waiting l.want-items;
}
