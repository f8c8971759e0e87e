use Rattle.std.proofs.Common.{◌≡◌, ◌≤◌, length, take}
use Rattle.onfi_calls.specs.Delay.{plain_without}
use Rattle.onfi_calls.proofs.delay.wants_without.Given as goal

abbrev pub invariant-loop-want : goal.invariant-loop-want
invariant-loop-want l = (l.left.items ≡ plain_without l.group (take l.want-index l.wants)) × (length l.left.items ≤ l.want-index)
