use Rattle.clap.proofs.WalkLemmas.{first_value-rows}
use Rattle.onfi_console.proofs.command_line.audit_options.Goals as goal

pub returns-clause-all : goal.returns-clause-all
returns-clause-all c = rw first_value-rows at c.is_given-all.ensures

pub returns-clause-by_status : goal.returns-clause-by_status
returns-clause-by_status c = rw first_value-rows at c.is_given-by_status.ensures

pub returns-clause-tolerance : goal.returns-clause-tolerance
returns-clause-tolerance c = rw first_value-rows at c.in_ok-tolerance.ensures.value

pub returns-clause-one_status : goal.returns-clause-one_status
returns-clause-one_status c = rw first_value-rows at c.is_given-one_status.ensures
