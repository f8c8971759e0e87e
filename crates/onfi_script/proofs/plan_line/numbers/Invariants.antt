use Rattle.onfi_script.proofs.NumbersLemmas.{Read}
use Rattle.onfi_script.proofs.plan_line.numbers.Given as goal

abbrev pub invariant-loop-at : goal.invariant-loop-at
invariant-loop-at l = Read l.byte l.text l.left l._at l.numbers
