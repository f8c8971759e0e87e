use Rattle.onfi_steady.proofs.run.Run.with_state.Goals as goal

pub returns-in-Running-clause-going : goal.returns-in-Running-clause-going
returns-in-Running-clause-going c = λ timing spans some. c.with_group.ensures.going timing spans
