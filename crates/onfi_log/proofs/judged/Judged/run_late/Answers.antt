use Rattle.std.proofs.Common.{◌↔◌, ◌<◌, ◌^◌, IsTrue, ap, subst}
use Rattle.onfi_audit.specs.Audit.{MayComeLater}
use Rattle.onfi_log.specs.Judging.{Judged}
use Rattle.onfi_log.proofs.judged.Judged.run_late.Goals as goal

pub returns-clause-ran : goal.returns-clause-ran
returns-clause-ran c =
    let line = c.args.line.now in
    let audit = ap (λ (j : Judged). j.audit) c.self.view_is in
    let ran = subst (λ a. IsTrue c.run_anyway.result ↔ (MayComeLater a line × (line.start < 2 ^ 62))) audit c.run_anyway.ensures.ran in
    (λ t. (ran.0 t).0, λ m. ran.1 (m, c.requires))
