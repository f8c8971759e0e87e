use Rattle.onfi_chip.proofs.Lanes.{opened_is}
use Rattle.onfi_chip.proofs.dies.Dies.new.Goals as goal

pub returns : goal.returns
returns c = opened_is c.args.geometry c.args.timing c.new-store.result c.in_ok-lanes.lanes.items c.args.faults.items c.new-store.ensures.device c.new-store.ensures.blocks c.in_ok-lanes.ensures
