use Rattle.std.proofs.Common.{◌≡◌, ◌-◌, ◌<◌, ◌++◌, ◌∷◌, [], sym, ap, ◌∙◌, subst, arith}
use Rattle.std.specs.List.{AllByRecursion as All}
use Rattle.onfi_request.specs.declared.want.Want.{Want}
use Rattle.onfi_group.specs.Words.{Has}
use Rattle.onfi_group.proofs.Lists.{All-has, All-weaker}
use Rattle.onfi_audit.specs.Audit.{Audit}
use Rattle.onfi_audit.proofs.Leaving.{has_last}
use Rattle.onfi_audit.proofs.audit.Audit.withdraw.Goals as goal

pub invariant_of-self : goal.invariant_of-self
invariant_of-self c =
    let (before, want, e) = c.requires in
    let number = c.self.inside.accepted in
    let wants : c.self.inside.wants ≡ before.wants ++ want ∷ [] = ap (λ (a : Audit). a.wants) (c.self.view_is ∙ e) in
    let less : want.id < number = All-has (λ (w : Want). w.id < number) c.self.inside.wants want c.self.invariant (subst (λ ws. Has ws want) (sym wants) (has_last before.wants want)) in
    subst (All (λ (w : Want). w.id < number - 1)) (sym (c.pop.ensures.left before.wants want wants))
    (All-weaker (λ (w : Want). w.id < want.id) (λ (w : Want). w.id < number - 1) (λ w h. omega (arith, less)) before.wants (c.pop.ensures.less before.wants want wants))
