use Rattle.onfi_run.specs.declared.bus_use.BusUse.{BusUse}
use Rattle.onfi_run.proofs.Numbered.{numbered_none, numbered_more, numbered_all}
use Rattle.onfi_run.proofs.text.put_buses.Goals as goal

pub loop-channel-init : goal.loop-channel-init
loop-channel-init c = numbered_none _ _ _

pub loop-channel-preserved : goal.loop-channel-preserved
loop-channel-preserved c =
    let unused : BusUse = record { busy = 0; until = 0 } in
    numbered_more _ _ _ unused _ _ _ c.loop-channel-test.true c.loop-channel.invariant c.in_ok-put_bus.ensures

pub returns : goal.returns
returns c = numbered_all _ _ _ _ _ c.loop-channel-test.false c.loop-channel.invariant
