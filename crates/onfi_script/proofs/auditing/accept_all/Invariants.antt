use Rattle.std.proofs.Common.{drop}
use Rattle.std.specs.Prelude.{Result}
use Rattle.onfi_audit.specs.Audit.{Audit}
use Rattle.onfi_script.specs.declared.fault.Refusal.{Refusal}
use Rattle.onfi_script.specs.Auditing.{AcceptsAll}
use Rattle.onfi_script.proofs.auditing.accept_all.Given as goal

-- what holds of the wants that are left holds of all
abbrev pub invariant-loop-want : goal.invariant-loop-want
invariant-loop-want l = (told : Result Audit Refusal) → AcceptsAll (drop l.want-index l.wants) l.audit told → AcceptsAll l.wants l.initial.audit told
