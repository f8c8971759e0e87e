use Rattle.onfi_chip.proofs.Numbers.{none_failed}
use Rattle.onfi_chip.proofs.numbered.Numbered.new.Goals as goal

pub returns-clause-none : goal.returns-clause-none
returns-clause-none c = none_failed c.args.failing.items
