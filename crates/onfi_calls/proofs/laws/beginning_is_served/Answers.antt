use Rattle.onfi_calls.proofs.Serving.{beginning_serves}
use Rattle.onfi_calls.proofs.laws.beginning_is_served.Goals as goal

pub returns : goal.returns
returns c = beginning_serves
