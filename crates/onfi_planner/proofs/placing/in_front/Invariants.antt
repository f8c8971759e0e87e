use Rattle.std.proofs.Common.{◌≡◌, ◌∷◌, take}
use Rattle.onfi_planner.proofs.placing.in_front.Given as goal

abbrev pub invariant-loop-other : goal.invariant-loop-other
invariant-loop-other l = l.starts ≡ l.start ∷ take l.other-index l.other-items
