use Rattle.onfi_calls.proofs.Serving.{running_serves}
use Rattle.onfi_calls.proofs.laws.running_is_served.Goals as goal

pub returns : goal.returns
returns c = running_serves
