use Rattle.std.proofs.Common.{◌≡◌, ◌<◌, ◌++◌, length, None, sym, ap, ◌∙◌, subst, arith}
use Rattle.onfi_core.specs.State.{Way}
use Rattle.onfi_core.specs.View.{HalfView}
use Rattle.onfi_core.proofs.Becoming.{due_inside}
use Rattle.onfi_core.proofs.Done.{goes, makes_of, member_slot, room_for, fields_done}
use Rattle.onfi_core.proofs.Lending.{settled_is}
use Rattle.onfi_core.proofs.Stepping.{due_there}
use Rattle.onfi_core.proofs.half.Half.done.Goals as goal

pub reply_of-reply-requires : goal.reply_of-reply-requires
reply_of-reply-requires g c κs within =
    let i = c.self.invariant in
    let is = due_inside _ _ c.args.due.now c.self.view_is c.requires.1.1.0 in
    let w = (goes c.self.inside.setup _ c.args.due.now i.sound is).1.within in
    (within, (c.requires.1.1.1, (w, (λ m at. member_slot c.self.inside.setup c.self.inside.slots _ c.args.due.now i.slots_are i.sound is m at, i.slots_are.items))))

pub hold-requires : goal.hold-requires
hold-requires g c =
    let none : c.self.inside.history.lent ≡ None = subst (λ (v : HalfView). v.lent ≡ None) (sym c.self.view_is) c.requires.1.0 in
    let i = c.self.invariant in
    let f = rw (settled_is _ _ _ _ i.lending none) at i in
    let is = due_inside _ _ c.args.due.now c.self.view_is c.requires.1.1.0 in
    let makes = makes_of c.self.inside.history.accepted g.faults c.args.due.now c.args.ran c.requires.1.1.1 (goes c.self.inside.setup _ c.args.due.now i.sound is).1.within in
    let e = ap length c.reply_of-reply.ensures in
    omega (arith, e, c.self.inside.held.ok.0, room_for _ _ _ _ _ _ _ c.args.due.now _ f is makes)

pub done-requires-clause-problem : goal.done-requires-clause-problem
done-requires-clause-problem g c = c.self.invariant.sound.problem

pub done-requires-clause-due : goal.done-requires-clause-due
done-requires-clause-due g c = due_inside _ _ c.args.due.now c.self.view_is c.requires.1.1.0

pub stopped_after-self-inside-requires : goal.stopped_after-self-inside-requires
stopped_after-self-inside-requires g c =
    let due = c.args.due.now in
    let there = due_there c.self.inside.setup _ due c.self.invariant.sound (due_inside _ _ due c.self.view_is c.requires.1.1.0) in
    subst (λ (w : Way). due.lun < length w.now.luns) (sym c.done.ensures) there

pub invariant_of-self : goal.invariant_of-self
invariant_of-self g c =
    let none : c.self.inside.history.lent ≡ None = subst (λ (v : HalfView). v.lent ≡ None) (sym c.self.view_is) c.requires.1.0 in
    let i = c.self.invariant in
    let unlent = settled_is _ _ _ _ i.lending none in
    let f = rw unlent at i in
    let is = due_inside _ _ c.args.due.now c.self.view_is c.requires.1.1.0 in
    let makes = makes_of c.self.inside.history.accepted g.faults c.args.due.now c.args.ran c.requires.1.1.1 (goes c.self.inside.setup _ c.args.due.now i.sound is).1.within in
    let e = c.with_held-self-inside.ensures in
    let made = c.reply_of-reply.ensures in
    let r = fields_done _ _ _ _ _ _ _ _ _ _ c.args.due.now _ _ _ _ _ _ f is makes (c.hold.ensures.items ∙ ap (λ rs. c.self.inside.held.items ++ rs) made) c.hold.ensures.capacity
    e.0 (e.1 ∙ ap (λ rs. c.self.inside.history.held ++ rs) made) e.2 e.3 c.done.ensures c.stopped_after-self-inside.ensures in
    rw unlent r
