use Rattle.std.proofs.Common.{◌≡◌, take}
use Rattle.onfi_bound.specs.Loads.{IsShortLoad}
use Rattle.onfi_bound.proofs.load.Load.with_all.Given as goal

abbrev pub invariant-loop-i : goal.invariant-loop-i
invariant-loop-i l = record {
  load : IsShortLoad l.timing l.rules (take l.i l.wants) l.load;
  marks : l.load.marks ≡ l.fn.self.marks;
}
