use Rattle.std.proofs.Common.{◌≡◌, ◌+◌, ◌≤◌, ◌<◌, ℕ, length, get_or}
use Rattle.std.specs.Prelude.{max}
use Rattle.onfi_timing.specs.Kinds.{sectors_of}
use Rattle.onfi_group.proofs.PhaseLengths.{no_want}
use Rattle.onfi_demand.proofs.left.sectors_left.Given as goal

abbrev pub invariant-loop-at : goal.invariant-loop-at
invariant-loop-at l = record {
  within : l.at ≤ max l.over (length l.members);
  long : length l.sectors ≡ 4;
  left : (i : ℕ) → i + l.over < l.at → get_or l.sectors i 0 ≡ sectors_of (get_or l.members (i + l.over) no_want).kind;
  rest : (i : ℕ) → l.at ≤ i + l.over → get_or l.sectors i 0 ≡ 0;
}
