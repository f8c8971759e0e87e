use Rattle.onfi_schedule.proofs.Exchange.{yielding}
use Rattle.onfi_schedule.proofs.laws.yielding.Goals as goal

pub returns : goal.returns
returns c = λ p move other start lun end steps. yielding p move other start lun end steps
