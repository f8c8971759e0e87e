use Rattle.std.proofs.Common.{◌≡◌, ℕ, ◌<◌, ◌≤◌, true}
use Rattle.onfi_timing.specs.Kinds.{states_count}
use Rattle.onfi_request.specs.Parts.{has_sectors}
use Rattle.onfi_core.proofs.setup.states_parts.Given as goal

abbrev pub invariant-loop-count : goal.invariant-loop-count
invariant-loop-count l = (n : ℕ) → 1 ≤ n → n < l.count → has_sectors l.geometry 0 n ≡ true → states_count l.timing n ≡ true
