use Rattle.onfi_console.proofs.command_line.check_of.Goals as goal

pub returns-clause-named : goal.returns-clause-named
returns-clause-named c = c.in_ok-command.ensures.command
