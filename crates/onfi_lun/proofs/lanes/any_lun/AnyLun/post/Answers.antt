use Rattle.std.proofs.Common.{sym, ap, subst, ◌∙◌}
use Rattle.onfi_addr.specs.Rows.{row_of}
use Rattle.onfi_chip.specs.declared.post.Post.{Post}
use Rattle.onfi_chip.specs.Chip.{posted}
use Rattle.onfi_chip.specs.Calls.{HasDone}
use Rattle.onfi_lun.specs.Lanes.{IsThere}
use Rattle.onfi_lun.proofs.LunMoves.{due_is, one_post, posted_there}
use Rattle.onfi_lun.proofs.lanes.any_lun.AnyLun.post.Goals as goal

pub returns-in-Ok-clause-answer : goal.returns-in-Ok-clause-answer
returns-in-Ok-clause-answer g c post left h =
    let old = g.C.Chip.state c.args.chip.now in
    let next = c.requires.next.2 in
    let same = one_post old c.args.now (row_of c.args.target.now.geometry c.args.fetch.place) c.requires.next.0 post c.requires.next.1 left next.fetch_is.next h in
    let due = due_is c.args.target.now old c.args.self c.args.now c.args.fetch c.requires.next.0 c.requires.next.1 c.requires.there next c.requires.lun c.requires.device c.into_posting-posting.result c.into_posting-posting.ensures.number c.into_posting-posting.ensures.left c.into_posting-posting.ensures.ready in
    c.in-Ok.ensures.answer c.requires.next.0 c.requires.next.1 due ∙ ap (λ (p : Post). p.answer) (sym same.0)

pub returns-in-Ok-clause-done : goal.returns-in-Ok-clause-done
returns-in-Ok-clause-done g c post left h =
    let old = g.C.Chip.state c.args.chip.now in
    let new = g.C.Chip.state c.post.new.chip in
    let next = c.requires.next.2 in
    let same = one_post old c.args.now (row_of c.args.target.now.geometry c.args.fetch.place) c.requires.next.0 post c.requires.next.1 left next.fetch_is.next h in
    let due = due_is c.args.target.now old c.args.self c.args.now c.args.fetch c.requires.next.0 c.requires.next.1 c.requires.there next c.requires.lun c.requires.device c.into_posting-posting.result c.into_posting-posting.ensures.number c.into_posting-posting.ensures.left c.into_posting-posting.ensures.ready in
    subst (λ (p : Post). HasDone (posted old p left c.args.now) new) (sym same.0) (subst (λ ps. HasDone (posted old c.requires.next.0 ps c.args.now) new) (sym same.1) (c.in-Ok.ensures.done c.requires.next.0 c.requires.next.1 due))

pub returns-in-Ok-clause-there : goal.returns-in-Ok-clause-there
returns-in-Ok-clause-there g c =
    let old = g.C.Chip.state c.args.chip.now in
    let new = g.C.Chip.state c.post.new.chip in
    let next = c.requires.next.2 in
    let due = due_is c.args.target.now old c.args.self c.args.now c.args.fetch c.requires.next.0 c.requires.next.1 c.requires.there next c.requires.lun c.requires.device c.into_posting-posting.result c.into_posting-posting.ensures.number c.into_posting-posting.ensures.left c.into_posting-posting.ensures.ready in
    let is = c.in-Ok.ensures.posted c.requires.next.0 c.requires.next.1 due in
    subst (IsThere new) (sym c.after_post.ensures) (posted_there c.requires.next.1 new c.into_posting-posting.result.number c.in-Ok.posted is).1
