use Rattle.std.proofs.Common.{◌≡◌, ◌≤◌, drop}
use Rattle.onfi_timing.specs.Sectors.{least_post}
use Rattle.onfi_timing.proofs.timing.least_of.Given as goal

abbrev pub invariant-loop-spans : goal.invariant-loop-spans
invariant-loop-spans l = record {
  value : least_post l.least (drop l.spans-index l.sectors) ≡ least_post l.post l.sectors;
  low : l.least ≤ l.post;
}
