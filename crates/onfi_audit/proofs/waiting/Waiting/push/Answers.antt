use Rattle.std.proofs.Common.{◌<◌, sym, subst}
use Rattle.std.specs.List.{AllByRecursion as All}
use Rattle.onfi_request.specs.declared.want.Want.{Want}
use Rattle.onfi_audit.proofs.Leaving.{pushed}
use Rattle.onfi_audit.proofs.waiting.Waiting.push.Goals as goal

pub invariant_of-self : goal.invariant_of-self
invariant_of-self c =
    let greater = subst (All (λ (w : Want). w.id < c.args.want.id)) (sym c.self.view_is) c.requires in
    pushed c.self.inside.all.items c.push.new.self.items c.self.inside.gone c.args.want c.self.invariant.0 c.self.invariant.1 greater _ c.push.ensures.items
