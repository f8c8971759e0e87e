use Rattle.std.proofs.Common.{length, subst}
use Rattle.onfi_steady.specs.Waiting.{channel}
use Rattle.onfi_steady.specs.LunBooks.{states_in}
use Rattle.onfi_steady.specs.Selecting.{IsFirstChoice}
use Rattle.onfi_steady.proofs.Dispatching.{first_next, held_found}
use Rattle.onfi_steady.proofs.first.first_phase.Goals as goal

pub returns-in-Some-clause-next : goal.returns-in-Some-clause-next
returns-in-Some-clause-next c = λ timing books are small array latest.
    let luns = c.args.luns.now in
    let p = channel timing c.args.from (states_in luns) books in
    let first = c.first_given.ensures.first timing books are small latest (c.kept_from-kept.ensures timing books are) (c.any_work-work.ensures timing books are array) in
    first_next timing books luns c.args.from small c.in-Some.first (subst (IsFirstChoice books p luns (length luns)) c.in-Some.is first)

pub returns-in-None-clause-next : goal.returns-in-None-clause-next
returns-in-None-clause-next c = λ timing books are small array latest.
    let luns = c.args.luns.now in
    let p = channel timing c.args.from (states_in luns) books in
    let first = c.first_given.ensures.first timing books are small latest (c.kept_from-kept.ensures timing books are) (c.any_work-work.ensures timing books are array) in
    held_found timing books luns c.args.from c.first_held.result are small (subst (IsFirstChoice books p luns (length luns)) c.in-None.is first) (c.first_held.ensures.held timing books are)
