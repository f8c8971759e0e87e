use Rattle.std.proofs.Common.{◌∙◌, length, refl, sym}
use Rattle.std.proofs.lemmas.Option.{slice_get_read}
use Rattle.onfi_steady.specs.Selecting.{IsChoice, held_in}
use Rattle.onfi_steady.proofs.Dispatching.{at_some, below_more, holds_some, none_of}
use Rattle.onfi_steady.proofs.Selecting.{held_there}
use Rattle.onfi_steady.proofs.first.first_held.Goals as goal

pub returns-in-Some-clause-held : goal.returns-in-Some-clause-held
returns-in-Some-clause-held c = λ timing books are.
    let luns = c.args.luns.now in
    let i = c.loop-at.at in
    let l = c.index-luns-at.result in
    let there = slice_get_read luns (length luns) i l refl c.loop-at-test.true c.index-luns-at.is in
    holds_some timing books luns are i l there c.args.from c.in-Some.choice (sym c.give_held.ensures ∙ c.in-Some.is) (c.loop-at.invariant timing books are)

pub returns-in-Some-clause-there : goal.returns-in-Some-clause-there
returns-in-Some-clause-there c =
    let luns = c.args.luns.now in
    let i = c.loop-at.at in
    let l = c.index-luns-at.result in
    let there = slice_get_read luns (length luns) i l refl c.loop-at-test.true c.index-luns-at.is in
    at_some (IsChoice luns) (held_in c.args.from i l) c.in-Some.choice (sym c.give_held.ensures ∙ c.in-Some.is) (held_there luns i l c.args.from there)

pub loop-at-preserved : goal.loop-at-preserved
loop-at-preserved c = λ timing books are.
    let luns = c.args.luns.now in
    let i = c.loop-at.at in
    let l = c.index-luns-at.result in
    let there = slice_get_read luns (length luns) i l refl c.loop-at-test.true c.index-luns-at.is in
    below_more timing books luns are i l there c.args.from (sym c.give_held.ensures ∙ none_of c.give_held.result c.in_default.not-Some) (c.loop-at.invariant timing books are)
