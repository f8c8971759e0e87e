use Rattle.onfi_check.specs.Faults.{IsBound, IsToYield}
use Rattle.onfi_check.proofs.Placing.{bound_of, here}
use Rattle.onfi_check.proofs.walk.closing_fault.Goals as goal

pub returns-in-Yield : goal.returns-in-Yield
returns-in-Yield c = λ behind left. here c.args.place c.args.token behind IsToYield (c.in-Yield.field-0, c.in-Yield.is)

pub returns-in-End : goal.returns-in-End
returns-in-End c = λ behind left. here c.args.place c.args.token behind _ c.in-End.is

pub returns-in_default : goal.returns-in_default
returns-in_default c = λ behind left. here c.args.place c.args.token behind IsBound (bound_of c.args.token c.requires c.in_default.not-Yield c.in_default.not-End)
