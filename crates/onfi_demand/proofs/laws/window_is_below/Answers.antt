use Rattle.onfi_demand.proofs.Between.{window_below}
use Rattle.onfi_demand.proofs.laws.window_is_below.Goals as goal

pub returns : goal.returns
returns c = window_below
