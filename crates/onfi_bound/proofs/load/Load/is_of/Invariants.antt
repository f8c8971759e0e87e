use Rattle.std.proofs.Common.{◌≡◌, IsTrue, take}
use Rattle.onfi_bound.proofs.load.Load.is_of.Given as goal

abbrev pub invariant-loop-i : goal.invariant-loop-i
invariant-loop-i l = IsTrue l.same → take l.i l.self.marks ≡ take l.i l.marks
