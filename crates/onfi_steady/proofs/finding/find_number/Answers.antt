use Rattle.std.proofs.Common.{◌≡◌, ◌∙◌, ap, false, length, refl, sym}
use Rattle.std.proofs.lemmas.Option.{slice_get_read}
use Rattle.onfi_steady.specs.Slots.{has_number, slots_in}
use Rattle.onfi_steady.proofs.Changing.{none_more}
use Rattle.onfi_steady.proofs.finding.find_number.Goals as goal

pub returns-then-has_number : goal.returns-then-has_number
returns-then-has_number c = record {
  books = c.index-luns-at.result;
  there = slice_get_read c.args.luns.now (length c.args.luns.now) c.loop-at.at c.index-luns-at.result refl c.loop-at-test.true c.index-luns-at.is;
  has = ap (λ z. has_number z c.args.id) (sym c.as_slice.ensures.value) ∙ (sym c.has_number.ensures ∙ c.if-has_number.true);
}

pub loop-at-preserved : goal.loop-at-preserved
loop-at-preserved c =
    let l = c.index-luns-at.result in
    let there = slice_get_read c.args.luns.now (length c.args.luns.now) c.loop-at.at l refl c.loop-at-test.true c.index-luns-at.is in
    let none : has_number (slots_in l.line) c.args.id ≡ false = ap (λ z. has_number z c.args.id) (sym c.as_slice.ensures.value) ∙ (sym c.has_number.ensures ∙ c.if-has_number.false) in
    none_more c.args.luns.now c.args.id c.loop-at.at l there none c.loop-at.invariant
