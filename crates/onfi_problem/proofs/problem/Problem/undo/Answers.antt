use Rattle.std.proofs.Common.{refl, sym, subst}
use Rattle.onfi_problem.specs.Left.{InLimits}
use Rattle.onfi_problem.specs.Position.{Position, restored, state_of}
use Rattle.onfi_problem.proofs.Lists.{map_set, refilled}
use Rattle.onfi_problem.proofs.Places.{length_set}
use Rattle.onfi_problem.proofs.problem.Problem.undo.Goals as goal

pub invariant_of-self : goal.invariant_of-self
invariant_of-self c =
    let k = c.self.invariant.0 in
    let q = refilled c.self.inside.luns.items c.deref_mut.result.now c.args.undo.lun c.args.undo.state c.deref_mut.ensures.value in
    let lim = subst (λ (z : Position). InLimits (restored z c.args.undo).problem) (sym c.self.view_is) c.requires.limits in
    rw q (rw (map_set (state_of c.self.inside.groups.items) c.self.inside.luns.items c.args.undo.lun c.args.undo.state) (record { limits = lim; few = k.few; wants = k.wants; ids = k.ids }), rw length_set c.self.invariant.1)

pub returns : goal.returns
returns c =
    let q = refilled c.self.inside.luns.items c.deref_mut.result.now c.args.undo.lun c.args.undo.state c.deref_mut.ensures.value in
    rw (← c.self.view_is, q, map_set (state_of c.self.inside.groups.items) c.self.inside.luns.items c.args.undo.lun c.args.undo.state) refl
