use Rattle.onfi_flight.proofs.Running.{runs_some}
use Rattle.onfi_flight.proofs.luns.Luns.of.Goals as goal

pub state_of-requires : goal.state_of-requires
state_of-requires c = runs_some c.args.problem.now.problem c.args.problem.now.groups c.luns-lun-items.result.now c.loop-lun.lun-index _ c.in_limits.ensures.limits.problem c.luns-lun-items.ensures.states c.loop-lun-test.true
