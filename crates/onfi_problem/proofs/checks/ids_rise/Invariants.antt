use Rattle.std.proofs.Common.{◌↔◌, ◌-◌, drop}
use Rattle.onfi_group.proofs.Rising.{Rises}
use Rattle.onfi_problem.proofs.checks.ids_rise.Given as goal

abbrev pub invariant-loop-at : goal.invariant-loop-at
invariant-loop-at l = Rises (λ w. w.id) (drop (l.at - 1) l.wants) ↔ Rises (λ w. w.id) l.wants
