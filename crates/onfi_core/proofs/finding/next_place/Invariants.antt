use Rattle.onfi_core.specs.Unanswered.{IsNearest}
use Rattle.onfi_core.proofs.finding.next_place.Given as goal

abbrev pub invariant-loop-key : goal.invariant-loop-key
invariant-loop-key l = IsNearest l.slots l.key l.from l.least
