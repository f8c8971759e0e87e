use Rattle.std.proofs.Common.{refl, sym, ap, subst, length, ◌∙◌, arith}
use Rattle.onfi_timing.specs.Kinds.{IsStated}
use Rattle.onfi_audit.specs.Audit.{Audit}
use Rattle.onfi_audit.proofs.Judging.{few_planes}
use Rattle.onfi_audit.proofs.audit.Audit.accept.Goals as goal

pub returns-clause-is : goal.returns-clause-is
returns-clause-is c = record {
  number = refl;
  want = record {
    plane = few_planes c.args.self.now.rules.plane_bits c.args.block c.args.self.now.rules.few_planes;
    erase = c.is_page_of_erase.ensures.none c.if-is_page_of_erase.false;
  };
  lun = omega (arith, c.if-from-as_slice.false, c.from.ensures, ap length c.as_slice.ensures.value, ap (λ (a : Audit). length a.luns) c.self.view_is);
  placed = refl;
  stated = subst (λ t. IsStated t c.args.kind) (ap (λ (a : Audit). a.timing) c.self.view_is) (sym c.states.ensures ∙ c.if-not-states.false);
}
