use Rattle.std.proofs.Common.{◌<◌, refl, sym, subst}
use Rattle.std.specs.List.{AllByRecursion as All}
use Rattle.onfi_request.specs.declared.want.Want.{Want}
use Rattle.onfi_problem.proofs.Wants.{All-filter}
use Rattle.onfi_audit.proofs.audit.Audit.join.Goals as goal

pub invariant_of-self : goal.invariant_of-self
invariant_of-self c =
    let less = λ (w : Want). w.id < c.self.inside.accepted in
    subst (All less) (sym (c.leave.ensures c.args.want.now refl)) (All-filter less _ c.self.inside.wants c.self.invariant)
