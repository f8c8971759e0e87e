use Rattle.onfi_script.proofs.answering.engine_split.Goals as goal

pub returns-clause-answer : goal.returns-clause-answer
returns-clause-answer g c = rw (c.output_of.ensures) at rw c.new-options.ensures at c.engine_split_by.ensures.answer

pub returns-clause-unwritten : goal.returns-clause-unwritten
returns-clause-unwritten g c = rw (c.output_of.ensures) at rw c.new-options.ensures at c.engine_split_by.ensures.unwritten
