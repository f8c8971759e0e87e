use Rattle.std.proofs.Common.{◌≡◌, ◌-◌, ◌≤◌, ◌++◌, length, drop}
use Rattle.onfi_core.specs.Unanswered.{senders_from}
use Rattle.onfi_core.proofs.half.Half.unanswered.Given as goal

abbrev pub invariant-loop-place : goal.invariant-loop-place
invariant-loop-place l = record {
  within : l.from ≤ length l.self-inside.history.accepted;
  so_far : l.senders.items ++ senders_from l.self-inside.history.posted l.from (drop l.from l.self-inside.history.accepted) ≡ senders_from l.self-inside.history.posted 0 l.self-inside.history.accepted;
}

abbrev pub decreases-loop-place : goal.decreases-loop-place
decreases-loop-place l = length l.self-inside.history.accepted - l.from
