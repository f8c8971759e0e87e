use Rattle.std.proofs.Common.{◌≡◌, ℕ, ◌*◌, ◌/◌, ◌%◌, ◌^◌, ◌<◌, length, get_or}
use Rattle.onfi_addr.proofs.geometry.Geometry.row_cycles.Given as goal

abbrev pub invariant-loop-cycle : goal.invariant-loop-cycle
invariant-loop-cycle l = record {
  rest : l.left ≡ l.row / 2 ^ (8 * l.cycle);
  whole : length l.cycles ≡ 15;
  written : (k : ℕ) → k < l.cycle → get_or l.cycles k 0 ≡ l.row / 2 ^ (8 * k) % 256;
}
