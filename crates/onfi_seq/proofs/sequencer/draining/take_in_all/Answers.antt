use Rattle.std.proofs.Common.{◌≡◌, ◌+◌, ◌<◌, get_or, length, arith}
use Rattle.std.proofs.lemmas.Option.{slice_get-get_or}
use Rattle.onfi_seq.proofs.Draining.{all_grown_one, on_err, refusals_more}
use Rattle.onfi_seq.proofs.sequencer.draining.take_in_all.Goals as goal

pub returns-in_err-take_in-clause-grown : goal.returns-in_err-take_in-clause-grown
returns-in_err-take_in-clause-grown g c =
    let l = c.loop-at in
    let low : l.at < length l.inboxes = omega (arith, l.invariant.0.count, c.loop-at-test.true) in
    let inbox = get_or l.inboxes l.at c.index-inboxes-at.result in
    let there = slice_get-get_or l.inboxes l.at c.index-inboxes-at.result low in
    all_grown_one c.args.inboxes.now l.inboxes l.at inbox c.take_in.new.inbox l.invariant.0 there c.take_in.ensures.grown

pub returns-in_err-take_in-clause-refused : goal.returns-in_err-take_in-clause-refused
returns-in_err-take_in-clause-refused g c =
    let l = c.loop-at in
    let low : l.at < length l.inboxes = omega (arith, l.invariant.0.count, c.loop-at-test.true) in
    let inbox = get_or l.inboxes l.at c.index-inboxes-at.result in
    let there = slice_get-get_or l.inboxes l.at c.index-inboxes-at.result low in
    on_err c.from_residual.result (refusals_more c.args.inboxes.now l.inboxes l.at inbox c.take_in.new.inbox 1 there l.invariant.1 c.in_err-take_in.ensures.refused)

pub loop-at-preserved : goal.loop-at-preserved
loop-at-preserved g c =
    let l = c.loop-at in
    let low : l.at < length l.inboxes = omega (arith, l.invariant.0.count, c.loop-at-test.true) in
    let inbox = get_or l.inboxes l.at c.index-inboxes-at.result in
    let there = slice_get-get_or l.inboxes l.at c.index-inboxes-at.result low in
    let taken = c.in_ok-take_in.ensures.taken in
    let same : c.take_in.new.inbox.refused ≡ inbox.refused + 0 = omega (arith, taken) in
    let more = refusals_more c.args.inboxes.now l.inboxes l.at inbox c.take_in.new.inbox 0 there l.invariant.1 same in (
      all_grown_one c.args.inboxes.now l.inboxes l.at inbox c.take_in.new.inbox l.invariant.0 there c.take_in.ensures.grown,
      omega (arith, more),
    )
