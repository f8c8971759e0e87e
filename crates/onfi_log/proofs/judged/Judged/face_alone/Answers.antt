use Rattle.std.proofs.Common.{inr, refl, ap, subst}
use Rattle.std.specs.Prelude.{slice_get}
use Rattle.onfi_audit.specs.Audit.{IsAlone}
use Rattle.onfi_audit.specs.declared.stage.LunStage.{LunStage}
use Rattle.onfi_log.specs.Judging.{Judged}
use Rattle.onfi_log.proofs.judged.Judged.face_alone.Goals as goal

pub returns-in_default : goal.returns-in_default
returns-in_default c =
    let line = c.args.line.now in
    let audit = ap (λ (j : Judged). j.audit) c.self.view_is in
    inr (subst (λ a. (x : LunStage) → IsAlone (slice_get a.luns line.lun) line x → ⊥) audit c.in_default.ensures.none, refl)
