use Rattle.std.proofs.Common.{refl, sym, ap, ◌∙◌}
use Rattle.onfi_audit.specs.Audit.{Audit, first_at}
use Rattle.onfi_audit.proofs.Filters.{none_first}
use Rattle.onfi_audit.proofs.audit.Audit.request.Goals as goal

pub returns-in_default-clause-broken : goal.returns-in_default-clause-broken
returns-in_default-clause-broken c =
    let line = c.args.line.now in
    let wants = c.as_slice-wants.ensures.value ∙ ap (λ (x : Audit). x.wants) c.self.view_is in
    (refl, refl, c.requires.command, none_first c.args.self.now.wants line (sym (c.first_at.ensures ∙ ap (λ ws. first_at ws line.lun line.block) wants) ∙ c.in_default.is))
