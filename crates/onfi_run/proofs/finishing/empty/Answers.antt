use Rattle.std.proofs.Common.{◌∙◌, ap, refl}
use Rattle.onfi_reply.specs.Ends.{InboxView}
use Rattle.onfi_run.proofs.Collecting.{empties_more, empties_none}
use Rattle.onfi_run.proofs.finishing.empty.Goals as goal

pub loop-init : goal.loop-init
loop-init g c = (refl, empties_none c.args.now c.args.inbox.now c.args.answers.now)

pub loop-preserved : goal.loop-preserved
loop-preserved g c =
    let after = c.in-Some-collect.ensures.given in (
      ap (λ (i : InboxView). i.queue) after ∙ c.loop.invariant.0,
      empties_more c.args.now c.args.inbox.now c.loop.inbox c.collect.new.self c.args.answers.now c.loop.answers c.keep.new.self c.in-Some-collect.reply c.loop.invariant.1
          c.in-Some-collect.ensures.first after c.keep.ensures.kept,
    )

pub returns-clause-adds : goal.returns-clause-adds
returns-clause-adds g c = (c.loop.invariant.1.replies, c.loop.invariant.1.kept)
