use Rattle.std.proofs.Common.{◌≡◌, false, take}
use Rattle.onfi_chip.specs.Numbers.{fails_at}
use Rattle.onfi_chip.proofs.numbered.Numbered.fails.Given as goal

abbrev pub invariant-loop-n : goal.invariant-loop-n
invariant-loop-n l = fails_at (take l.n-index l.n-items) l.made ≡ false
