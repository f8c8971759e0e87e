use Rattle.onfi_schedule.proofs.OneTrace.{one_trace}
use Rattle.onfi_schedule.proofs.laws.one_trace.Goals as goal

pub returns : goal.returns
returns c = one_trace
