use Rattle.onfi_script.proofs.answering.answer_by.Goals as goal

pub returns-in-Plan-clause-several : goal.returns-in-Plan-clause-several
returns-in-Plan-clause-several g c = λ more. rw c.in-Plan.is (rw c.output_of.ensures at rw c.new-options.ensures at c.answer_by_workers.ensures)

pub returns-in-Check-clause-several : goal.returns-in-Check-clause-several
returns-in-Check-clause-several g c = λ more. rw c.in-Check.is (rw c.in-Check.is at c.answer-in-Check.ensures)

pub returns-in-CheckWithin-clause-several : goal.returns-in-CheckWithin-clause-several
returns-in-CheckWithin-clause-several g c = λ more. rw c.in-CheckWithin.is (rw c.in-CheckWithin.is at c.answer-in-CheckWithin.ensures)

pub returns-in-Legal-clause-several : goal.returns-in-Legal-clause-several
returns-in-Legal-clause-several g c = λ more. rw c.in-Legal.is (rw c.in-Legal.is at c.answer-in-Legal.ensures)
