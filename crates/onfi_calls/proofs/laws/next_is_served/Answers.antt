use Rattle.onfi_calls.proofs.Serving.{next_serves}
use Rattle.onfi_calls.proofs.laws.next_is_served.Goals as goal

pub returns : goal.returns
returns c = next_serves
