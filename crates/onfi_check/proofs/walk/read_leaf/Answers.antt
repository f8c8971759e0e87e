use Rattle.onfi_check.specs.Faults.{IsBound}
use Rattle.onfi_check.proofs.Placing.{here, leaf_bound}
use Rattle.onfi_check.proofs.walk.read_leaf.Goals as goal

pub returns-else-closes_after-clause-kind : goal.returns-else-closes_after-clause-kind
returns-else-closes_after-clause-kind c = λ behind left. here c.args.place c.args.token behind IsBound (leaf_bound c.args.token c.requires.leaf)
