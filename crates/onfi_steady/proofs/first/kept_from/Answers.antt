use Rattle.std.proofs.Common.{◌+◌, arith, length, refl, subst, sym, take}
use Rattle.std.proofs.lemmas.List.{length-map}
use Rattle.std.proofs.lemmas.Option.{slice_get_read}
use Rattle.onfi_steady.specs.Waiting.{channel}
use Rattle.onfi_steady.specs.Kept.{IsKeptBy}
use Rattle.onfi_steady.specs.declared.lun_books.LunBooks.{LunBooks}
use Rattle.onfi_steady.specs.LunBooks.{state_in, states_in}
use Rattle.onfi_steady.proofs.Dispatching.{lun_at}
use Rattle.onfi_steady.proofs.KeptFrom.{kept_all}
use Rattle.onfi_steady.proofs.Selecting.{kept_on}
use Rattle.onfi_steady.proofs.first.kept_from.Goals as goal

pub loop-at-preserved : goal.loop-at-preserved
loop-at-preserved c = λ timing books are.
    let luns = c.args.luns.now in
    let from = c.args.from in
    let i = c.loop-at.at in
    let l = c.index-luns-at.result in
    let there = slice_get_read luns (length luns) i l refl c.loop-at-test.true c.index-luns-at.is in
    subst (IsKeptBy (channel timing from (states_in luns) books) (take (i + 1) (states_in luns))) (sym c.earliest_kept-first.ensures)
    (kept_on timing books luns from i l c.loop-at.first there (lun_at timing books luns i l are there) (c.loop-at.invariant timing books are))

pub returns : goal.returns
returns c = λ timing books are.
    let luns = c.args.luns.now in
    let size = length-map luns (λ (l : LunBooks). state_in l.run) in
    let test = c.loop-at-test.false in
    kept_all (channel timing c.args.from (states_in luns) books) (states_in luns) c.loop-at.at c.loop-at.first (omega arith) (c.loop-at.invariant timing books are)
