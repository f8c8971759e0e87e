use Rattle.std.proofs.Common.{◌≡◌, ◌+◌, ◌-◌, ◌≤◌, [], ◌∷◌, ◌++◌, ◌⊎◌, drop, length, Some, sym, ap, ◌∙◌, subst, length-drop, arith}
use Rattle.std.specs.Prelude.{slice_get}
use Rattle.onfi_core.specs.State.{wants_from}
use Rattle.onfi_core.specs.Steps.{taken_next}
use Rattle.onfi_core.specs.View.{HalfView}
use Rattle.onfi_core.proofs.Next.{unplanned_slot, takes_one, takes_all}
use Rattle.onfi_core.proofs.Numbered.{length_wants}
use Rattle.onfi_core.proofs.half.Half.next_wants.Goals as goal

pub item_of-requires : goal.item_of-requires
item_of-requires c =
    let i = c.self.invariant in
    let n = i.count in
    unplanned_slot c.self.inside.setup c.self.inside.slots _ (c.self.inside.planned + c.loop-at.at) i.slots_are i.sound (omega arith) (grind arith)

pub loop-at-preserved : goal.loop-at-preserved
loop-at-preserved c =
    let e = c.item_of.ensures in
    let i = c.self.invariant in
    let there = subst (λ p. slice_get c.self.inside.history.accepted p ≡ Some e.1.item) e.3 (i.slots_are.items e.0 e.1 e.2) in
    let there' = subst (λ x. slice_get c.self.inside.history.accepted (c.self.inside.planned + c.loop-at.at) ≡ Some x) (sym e.4) there in
    c.push.ensures.items ∙ ap (λ w. c.loop-at.wants.items ++ w ∷ []) c.want_of.ensures ∙ takes_one c.self.inside.setup.geometry c.self.inside.history.accepted c.self.inside.planned c.loop-at.at c.item_of.result.now c.loop-at.wants.items c.self.inside.way.now.wants there' c.loop-at.invariant

pub returns : goal.returns
returns c =
    let i = c.self.invariant in
    let U = wants_from c.self.inside.setup.geometry c.self.inside.planned (drop c.self.inside.planned c.self.inside.history.accepted) in
    let l = length_wants c.self.inside.setup.geometry c.self.inside.planned (drop c.self.inside.planned c.self.inside.history.accepted) in
    let d = length-drop c.self.inside.planned c.self.inside.history.accepted in
    let n = i.count in
    let room = c.self.inside.batch - length c.self.inside.way.now.wants in
    let low : c.loop-at.at ≤ room = grind arith in
    let either : (c.loop-at.at ≡ room) ⊎ (length U ≤ c.loop-at.at) = grind arith in
    let P = λ (h : HalfView). c.loop-at.wants.items ≡ h.state.now.wants ++ taken_next h.setup h.state in
    subst P c.self.view_is (c.loop-at.invariant ∙ ap (λ zs. c.self.inside.way.now.wants ++ zs) (takes_all c.loop-at.at room U low either))
