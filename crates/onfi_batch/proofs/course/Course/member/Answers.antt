use Rattle.std.proofs.Common.{refl, arith}
use Rattle.onfi_batch.specs.Course.{state_of}
use Rattle.onfi_batch.proofs.Steps.{item_read, taken_is}
use Rattle.onfi_batch.proofs.course.Course.member.Goals as goal

pub member-requires : goal.member-requires
member-requires c = c.requires.due.within

pub index-requires : goal.index-requires
index-requires c =
    let f = c.args.self.now in
    let low = (taken_is c.requires.sound.0 (state_of f) c.args.due.now c.requires.sound.1 c.requires.due _ c.member.result.now c.member.ensures).below in
    omega (arith, f.items.ok.0, low)

pub returns : goal.returns
returns c =
    let f = c.args.self.now in
    let low = (taken_is c.requires.sound.0 (state_of f) c.args.due.now c.requires.sound.1 c.requires.due _ c.member.result.now c.member.ensures).below in
    (c.member.result.now, c.member.ensures, refl, item_read f.items.items _ c.index.result.now _ low c.index.ensures)
