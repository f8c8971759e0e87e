use Rattle.std.proofs.Common.{◌≡◌, drop}
use Rattle.std.specs.List.{filter}
use Rattle.onfi_audit.specs.Audit.{is_at}
use Rattle.onfi_audit.proofs.requests.first_at.Given as goal

abbrev pub invariant-loop-want : goal.invariant-loop-want
invariant-loop-want l = filter (is_at l.lun l.block) (drop l.want-index l.wants) ≡ filter (is_at l.lun l.block) l.wants
