use Rattle.std.proofs.Common.{arith, refl}
use Rattle.onfi_demand.proofs.Opened.{left_there}
use Rattle.onfi_known_check.proofs.known.Known.is_met.Goals as goal

pub returns : goal.returns
returns c = (λ _. record { bus = omega arith; luns = λ l h. let k = left_there c.args.problem.now.problem l c.in_limits.ensures.limits.problem h in c.loop-lun.invariant l (omega arith) h }, λ _. refl)
