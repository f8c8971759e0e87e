use Rattle.std.proofs.Common.{◌≤◌, length, subst}
use Rattle.onfi_core.specs.Dues.{IsRan}
use Rattle.onfi_core.proofs.Done.{reply_is}
use Rattle.onfi_batch.proofs.course.Course.reply_of.Goals as goal

pub returns : goal.returns
returns g c =
    let due = c.args.due.now in
    let le : length due.group ≤ due.phase = subst (IsRan due) c.in-Post.is c.requires.ran in
    let e = c.member-place.ensures in
    reply_is c.args.self.now.items.items (g.C.Chip.state c.args.chip.now).faults due c.args.ran c.in-Post.answer c.member-place.result.0
    c.member-place.result.1.now c.of.result e.0 c.in-Post.is le e.1 e.2 e.3 c.of.ensures.0 c.of.ensures.1
