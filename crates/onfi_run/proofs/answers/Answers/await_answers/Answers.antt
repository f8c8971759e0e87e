use Rattle.std.proofs.Common.{sym, subst}
use Rattle.std.specs.List.{AllByRecursion as Each}
use Rattle.onfi_run.specs.Answers.{IsSuited}
use Rattle.onfi_run.specs.Arriving.{expected_on}
use Rattle.onfi_run.proofs.Suited.{all_suited}
use Rattle.onfi_run.proofs.answers.Answers.await_answers.Goals as goal

pub invariant_of-result : goal.invariant_of-result
invariant_of-result c = subst (Each IsSuited) (sym c.in_ok-by_serial.ensures) (all_suited (expected_on c.args.rows.now c.args.host c.args.channel))
