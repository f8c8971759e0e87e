use Rattle.std.proofs.Common.{◌∙◌}
use Rattle.onfi_seq.proofs.Draining.{grown_taken, took_refused}
use Rattle.onfi_seq.proofs.sequencer.draining.take_in.Goals as goal

pub loop-reply-preserved : goal.loop-reply-preserved
loop-reply-preserved g c =
    let l = c.loop-reply in
    let took = c.in_ok-take_in.ensures.took in (
      grown_taken c.in_ok-take_in.field-0 c.args.inbox.now l.inbox c.take_in.new.self l.invariant.0 took,
      took_refused c.in_ok-take_in.field-0 l.inbox c.take_in.new.self took ∙ l.invariant.1,
    )
