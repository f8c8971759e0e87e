use Rattle.std.proofs.Common.{◌≡◌, Some, subst}
use Rattle.onfi_request.specs.declared.want.Want.{Want}
use Rattle.onfi_flight.specs.Flight.{member_of}
use Rattle.onfi_core.specs.State.{item_at}
use Rattle.onfi_core.specs.View.{HalfView}
use Rattle.onfi_core.proofs.Becoming.{due_inside}
use Rattle.onfi_core.proofs.Done.{item_in_slot, member_slot}
use Rattle.onfi_core.proofs.Stepping.{due_of}
use Rattle.onfi_core.proofs.half.Half.member.Goals as goal

pub member-requires : goal.member-requires
member-requires c =
    let is = due_inside _ _ c.args.due.now c.self.view_is c.requires in
    (due_of c.self.inside.setup _ c.args.due.now c.self.invariant.sound is).within

pub item_of-requires : goal.item_of-requires
item_of-requires c =
    let i = c.self.invariant in
    let is = due_inside _ _ c.args.due.now c.self.view_is c.requires in
    member_slot c.self.inside.setup c.self.inside.slots _ c.args.due.now i.slots_are i.sound is _ c.member.ensures

pub returns : goal.returns
returns c =
    let due = c.args.due.now in
    let e = c.item_of.ensures in
    let item = item_in_slot c.self.inside.history.accepted _ e.1 c.item_of.result.now (c.self.invariant.slots_are.items e.0 e.1 e.2) e.3 e.4 in
    subst (λ (x : HalfView). (m : Want) × (member_of due.group due.phase ≡ Some m) × (c.item_of.result.now ≡ item_at x.state.accepted m.id)) c.self.view_is
    (c.member.result.now, c.member.ensures, item)
