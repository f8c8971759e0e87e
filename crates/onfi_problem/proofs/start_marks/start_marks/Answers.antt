use Rattle.std.proofs.Common.{replicate, false, sym, refl}
use Rattle.std.proofs.lemmas.List.{take_all}
use Rattle.onfi_request.specs.declared.want.Want.{Want}
use Rattle.onfi_timing.specs.declared.kind.Kind.TheVariants.{Read}
use Rattle.onfi_group.specs.Group.{is_member}
use Rattle.onfi_problem.specs.StartMarks.{is_asked}
use Rattle.onfi_problem.proofs.StartMarks.{by_more}
use Rattle.onfi_problem.proofs.start_marks.start_marks.Goals as goal

abbrev blank : Want
blank = record { id = 0; kind = Read; lun = 0; plane = 0; block = 0; page = 0 }

pub loop-i-preserved : goal.loop-i-preserved
loop-i-preserved c =
    let g = c.args.group.now in
    let ws = c.args.wants.now in
    let i = c.loop-i.i in
    let v = c.loop-i.invariant in
    rw (c.has-member.ensures, c.is_ahead.ensures) (record {
      members = rw v.members (sym (by_more (is_member g) (replicate 8 false) ws i blank c.loop-i-test.true c.requires));
      asked = rw v.asked (sym (by_more (is_asked g) (replicate 8 false) ws i blank c.loop-i-test.true c.requires));
    })

pub returns : goal.returns
returns c =
    let e = take_all c.loop-i.i c.args.wants.now c.loop-i-test.false in
    rw (c.loop-i.invariant.members, c.loop-i.invariant.asked, e) refl
