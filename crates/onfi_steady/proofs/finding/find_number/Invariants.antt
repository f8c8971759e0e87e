use Rattle.onfi_steady.specs.Selecting.{NoneHolds}
use Rattle.onfi_steady.proofs.finding.find_number.Given as goal

abbrev pub invariant-loop-at : goal.invariant-loop-at
invariant-loop-at l = NoneHolds l.luns l.id l.at
