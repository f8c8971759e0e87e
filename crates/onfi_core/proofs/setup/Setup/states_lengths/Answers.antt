use Rattle.onfi_core.proofs.setup.Setup.states_lengths.Goals as goal

pub returns : goal.returns
returns c = c.args.self.now.stated c.is_byte.ensures
