use Rattle.onfi_run.specs.declared.channel_end.ChannelEnd.TheVariants.{Done}
use Rattle.onfi_run.proofs.Numbered.{numbered_none, numbered_more, numbered_all}
use Rattle.onfi_run.proofs.text.put_ends.Goals as goal

pub loop-channel-init : goal.loop-channel-init
loop-channel-init c = numbered_none _ _ _

pub loop-channel-preserved : goal.loop-channel-preserved
loop-channel-preserved c = numbered_more _ _ _ Done _ _ _ c.loop-channel-test.true c.loop-channel.invariant c.in_ok-put_end.ensures

pub returns : goal.returns
returns c = numbered_all _ _ _ _ _ c.loop-channel-test.false c.loop-channel.invariant
