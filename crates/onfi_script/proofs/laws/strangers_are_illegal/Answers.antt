use Rattle.onfi_script.proofs.Strangers.{absent_is_illegal, stranger_is_illegal}
use Rattle.onfi_script.proofs.laws.strangers_are_illegal.Goals as goal

pub returns-clause-luns : goal.returns-clause-luns
returns-clause-luns c = absent_is_illegal

pub returns-clause-wants : goal.returns-clause-wants
returns-clause-wants c = stranger_is_illegal
