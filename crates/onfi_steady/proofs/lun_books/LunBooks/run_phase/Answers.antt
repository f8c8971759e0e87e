use Rattle.onfi_steady.proofs.lun_books.LunBooks.run_phase.Goals as goal

pub returns-then-self-eq0-clause-begins : goal.returns-then-self-eq0-clause-begins
returns-then-self-eq0-clause-begins c = λ timing group spans none begin. c.begin_group.ensures timing c.args.rules.now group spans begin
