use Rattle.std.proofs.Common.{inl}
use Rattle.onfi_known_check.specs.Faults.{IsBound, IsBranch, IsToYield}
use Rattle.std.specs.Prelude.{◌⊎◌}
use Rattle.onfi_known_check.proofs.Placing.{bound_of, here}
use Rattle.onfi_known_check.proofs.closes.closing_fault.Goals as goal

pub returns-in-Yield : goal.returns-in-Yield
returns-in-Yield c = λ behind left. here c.args.place c.args.token behind (λ token. IsToYield token ⊎ IsBranch token) (inl (c.in-Yield.field-0, c.in-Yield.is))

pub returns-in-End : goal.returns-in-End
returns-in-End c = λ behind left. here c.args.place c.args.token behind _ c.in-End.is

pub returns-in_default : goal.returns-in_default
returns-in_default c = λ behind left. here c.args.place c.args.token behind IsBound (bound_of c.args.token c.requires.no_branch c.in_default.not-Yield c.requires.no_name c.in_default.not-End)
