use Rattle.std.proofs.Common.{◌≤◌, ◌∙◌, ap, arith, length, refl, sym}
use Rattle.std.proofs.lemmas.List.{drop_all, length-map}
use Rattle.std.proofs.lemmas.Option.{slice_get_read}
use Rattle.onfi_steady.specs.Waiting.{channel}
use Rattle.onfi_steady.specs.Next.{have_work}
use Rattle.onfi_steady.specs.declared.lun_books.LunBooks.{LunBooks}
use Rattle.onfi_steady.specs.LunBooks.{state_in, states_in}
use Rattle.onfi_steady.proofs.Dispatching.{line_at, lun_at}
use Rattle.onfi_steady.proofs.Selecting.{idle_on, works_on}
use Rattle.onfi_steady.proofs.first.any_work.Goals as goal

pub loop-at-preserved : goal.loop-at-preserved
loop-at-preserved c = λ timing books are array.
    let luns = c.args.luns.now in
    let i = c.loop-at.at in
    let l = c.index-luns-at.result in
    let there = slice_get_read luns (length luns) i l refl c.loop-at-test.true c.index-luns-at.is in
    idle_on timing books luns c.args.from c.args.array i l there array (lun_at timing books luns i l are there) (line_at timing books luns i l are there)
    (sym c.works.ensures ∙ c.if-works.false) (c.loop-at.invariant timing books are array)

pub returns-then-works : goal.returns-then-works
returns-then-works c = λ timing books are array.
    let luns = c.args.luns.now in
    let i = c.loop-at.at in
    let l = c.index-luns-at.result in
    let there = slice_get_read luns (length luns) i l refl c.loop-at-test.true c.index-luns-at.is in
    works_on timing books luns c.args.from c.args.array i l there array (lun_at timing books luns i l are there) (line_at timing books luns i l are there)
    (sym c.works.ensures ∙ c.if-works.true) (c.loop-at.invariant timing books are array)

pub returns : goal.returns
returns c = λ timing books are array.
    let luns = c.args.luns.now in
    let i = c.loop-at.at in
    let size = length-map luns (λ (l : LunBooks). state_in l.run) in
    let test = c.loop-at-test.false in
    let past : length (states_in luns) ≤ i = omega arith in
    sym (ap (have_work books (channel timing c.args.from (states_in luns) books) i) (drop_all i (states_in luns) past)) ∙ c.loop-at.invariant timing books are array
