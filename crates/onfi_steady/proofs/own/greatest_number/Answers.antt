use Rattle.std.proofs.Common.{sym}
use Rattle.onfi_timing.specs.declared.kind.Kind.TheVariants.{Read}
use Rattle.onfi_request.specs.declared.want.Want.{Want}
use Rattle.onfi_steady.proofs.Extremes.{greatest_more}
use Rattle.onfi_steady.proofs.own.greatest_number.Goals as goal

abbrev blank : Want
blank = record { id = 0; kind = Read; lun = 0; plane = 0; block = 0; page = 0 }

pub loop-member-preserved : goal.loop-member-preserved
loop-member-preserved c = rw (c.max-greatest.ensures, c.loop-member.invariant) (sym (greatest_more 0 c.args.members.now c.loop-member.member-index blank c.loop-member-test.true))
