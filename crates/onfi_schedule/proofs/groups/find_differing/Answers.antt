use Rattle.std.proofs.Common.{get_or, refl, sym}
use Rattle.onfi_group.proofs.Lists.{Has-get}
use Rattle.onfi_schedule.specs.Tells.{IsMixed}
use Rattle.onfi_schedule.proofs.Twos.{any_has}
use Rattle.onfi_schedule.proofs.Telling.{no_want}
use Rattle.onfi_schedule.proofs.groups.find_differing.Goals as goal

pub returns-in-Some-clause-told : goal.returns-in-Some-clause-told
returns-in-Some-clause-told c = λ p s starts er there.
    let ms = c.args.members.now in
    let first = c.in_ok-first.first.now in
    let other = get_or ms c.loop-member.member-index no_want in
    any_has (IsMixed p.rules first.id other.id c.in-Some.difference) s.groups (record { members = ms; starts = starts }) there (record {
      one = first;
      other = other;
      begins = sym c.in_ok-first.ensures.value;
      there = Has-get ms c.loop-member.member-index no_want c.loop-member-test.true;
      told = refl;
      told_other = refl;
      differs = rw er c.in-Some.ensures.told;
    })
