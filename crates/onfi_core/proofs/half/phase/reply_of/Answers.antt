use Rattle.std.proofs.Common.{◌≤◌, length, refl, subst}
use Rattle.onfi_core.specs.Dues.{IsRan}
use Rattle.onfi_core.proofs.Done.{item_in_slot, reply_is}
use Rattle.onfi_core.proofs.half.phase.reply_of.Goals as goal

pub returns : goal.returns
returns g c =
    let due = c.args.due.now in
    let accepted = c.args.history.now.accepted in
    let e = c.item_of-item.ensures in
    let le : length due.group ≤ due.phase = subst (IsRan due) c.in-Post.is c.requires.1.0 in
    let item = item_in_slot accepted _ e.1 c.item_of-item.result.now (c.requires.1.1.1.1 e.0 e.1 e.2) e.3 e.4 in
    reply_is accepted g.faults due c.args.ran c.in-Post.answer _ c.item_of-item.result.now c.of.result c.member.result.now c.in-Post.is le
    c.member.ensures refl item c.of.ensures.0 c.of.ensures.1
