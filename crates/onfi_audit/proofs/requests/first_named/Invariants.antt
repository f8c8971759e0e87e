use Rattle.std.proofs.Common.{drop}
use Rattle.std.specs.List.{AllByRecursion as Each}
use Rattle.onfi_audit.specs.Audit.{Names}
use Rattle.onfi_audit.proofs.requests.first_named.Given as goal

abbrev pub invariant-loop-want : goal.invariant-loop-want
invariant-loop-want l = Each (λ w. Names l.line w → ⊥) (drop l.want-index l.wants) → Each (λ w. Names l.line w → ⊥) l.wants
