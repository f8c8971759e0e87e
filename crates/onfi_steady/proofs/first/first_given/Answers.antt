use Rattle.std.proofs.Common.{◌≡◌, ◌+◌, arith, length, refl, subst, sym, None}
use Rattle.std.specs.Prelude.{IfSome, MatchOption}
use Rattle.std.proofs.lemmas.Option.{slice_get_read}
use Rattle.onfi_steady.specs.Waiting.{channel}
use Rattle.onfi_steady.specs.Next.{given_move}
use Rattle.onfi_steady.specs.LunBooks.{states_in}
use Rattle.onfi_steady.specs.Selecting.{IsChoice, IsFirstChoice}
use Rattle.onfi_steady.proofs.Dispatching.{line_at, lun_at}
use Rattle.onfi_steady.proofs.Selecting.{IsGiven, choice_more, first_there, given_is, given_there, last_choice}
use Rattle.onfi_steady.proofs.first.first_given.Goals as goal

pub loop-at-preserved : goal.loop-at-preserved
loop-at-preserved c =
    let luns = c.args.luns.now in
    let from = c.args.from in
    let kept = c.args.kept in
    let newest = c.args.newest in
    let work = c.args.work in
    let i = c.loop-at.at in
    let l = c.index-luns-at.result in
    let there = slice_get_read luns (length luns) i l refl c.loop-at-test.true c.index-luns-at.is in
    record {
      first = λ timing books are small latest by works.
          let p = channel timing from (states_in luns) books in
          let given = given_is timing books luns from small kept newest work by latest works i l there (lun_at timing books luns i l are there) (line_at timing books luns i l are there) in
          let other = subst (λ z. MatchOption z (given_move books p i ≡ None) (IsGiven books small p refl refl luns i)) (sym c.give_phase-other.ensures) given in
          subst (IsFirstChoice books p luns (i + 1)) (sym c.first_of-first.ensures)
          (choice_more books small p refl refl luns i c.loop-at.first c.give_phase-other.result (c.loop-at.invariant.first timing books are small latest by works) other);
      within = let h = c.loop-at-test.true in omega arith;
      there = subst (λ z. IfSome z (IsChoice luns)) (sym c.first_of-first.ensures)
          (first_there luns c.loop-at.first c.give_phase-other.result c.loop-at.invariant.there
          (subst (λ z. IfSome z (IsChoice luns)) (sym c.give_phase-other.ensures) (given_there luns i l from kept newest work there)));
    }

pub returns-clause-first : goal.returns-clause-first
returns-clause-first c = λ timing books are small latest by works.
    last_choice books (channel timing c.args.from (states_in c.args.luns.now) books) c.args.luns.now c.loop-at.at c.loop-at.first c.loop-at-test.false
    (let h = c.loop-at.invariant.within in omega arith) (c.loop-at.invariant.first timing books are small latest by works)

pub returns-clause-there : goal.returns-clause-there
returns-clause-there c = c.loop-at.invariant.there
