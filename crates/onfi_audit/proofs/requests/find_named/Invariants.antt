use Rattle.std.proofs.Common.{drop}
use Rattle.std.specs.List.{AllByRecursion as Each}
use Rattle.onfi_audit.specs.Audit.{Names}
use Rattle.onfi_audit.proofs.requests.find_named.Given as goal

abbrev pub invariant-loop-at : goal.invariant-loop-at
invariant-loop-at l = Each (λ w. Names l.line w → ⊥) (drop l.at l.wants) → Each (λ w. Names l.line w → ⊥) l.wants
