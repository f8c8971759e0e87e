use Rattle.onfi_calls.proofs.Serving.{taking_serves}
use Rattle.onfi_calls.proofs.laws.taking_is_served.Goals as goal

pub returns : goal.returns
returns c = taking_serves
