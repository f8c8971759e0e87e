use Rattle.std.proofs.Common.{◌≡◌, ◌≤◌, ◌<◌, ℕ, true}
use Rattle.std.specs.Prelude.{slice_index}
use Rattle.onfi_known_plan.proofs.records.are_met.Given as goal

abbrev pub invariant-loop-lun : goal.invariant-loop-lun
invariant-loop-lun l = l.met ≡ true → (k : ℕ) → k < l.lun → slice_index l.asked k ≤ slice_index l.times k
