use Rattle.std.proofs.Common.{sym, ap, subst}
use Rattle.onfi_audit.specs.Audit.{IsAccepting}
use Rattle.onfi_log.specs.Judging.{Judged}
use Rattle.onfi_log.proofs.judged.Judged.withdraw.Goals as goal

pub withdraw-requires : goal.withdraw-requires
withdraw-requires c = subst IsAccepting (sym (ap (λ (j : Judged). j.audit) c.self.view_is)) c.requires
