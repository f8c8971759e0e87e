use Rattle.onfi_script.specs.Answer.{PartsTell}
use Rattle.onfi_script.specs.AnswerOf.{told_of}
use Rattle.onfi_script.specs.Text.{memory}
use Rattle.onfi_script.specs.declared.command.Command.TheVariants.{PlanBy}
use Rattle.onfi_script.proofs.Told.{all_answers, memory_answers, told, told_part}
use Rattle.onfi_script.proofs.answering.engine_split_by.Goals as goal

pub returns-in-Ok-clause-answer : goal.returns-in-Ok-clause-answer
returns-in-Ok-clause-answer g c =
    let input = g.R.Read.remaining c.args.reader.now in
    let is = all_answers PartsTell (PlanBy c.args.options) input c.in-Ok.input.items c.answer_by_workers-answered.result c.in-Ok.ensures (rw c.as_slice.ensures.value at c.answer_by_workers-answered.ensures) in
    told PartsTell (PlanBy c.args.options) input (g.W.Write.contents c.args.writer.now) (g.W.Write.contents c.write_answer.new.writer) (told_of c.answer_by_workers-answered.result) c.write_answer.result is c.write_answer.ensures.whole

pub returns-in-Ok-clause-unwritten : goal.returns-in-Ok-clause-unwritten
returns-in-Ok-clause-unwritten g c =
    let input = g.R.Read.remaining c.args.reader.now in
    let is = all_answers PartsTell (PlanBy c.args.options) input c.in-Ok.input.items c.answer_by_workers-answered.result c.in-Ok.ensures (rw c.as_slice.ensures.value at c.answer_by_workers-answered.ensures) in
    told_part PartsTell (PlanBy c.args.options) input (g.W.Write.contents c.args.writer.now) (g.W.Write.contents c.write_answer.new.writer) (told_of c.answer_by_workers-answered.result) c.write_answer.result is c.write_answer.ensures.part

pub returns-in-Err-Memory-clause-answer : goal.returns-in-Err-Memory-clause-answer
returns-in-Err-Memory-clause-answer g c =
    let input = g.R.Read.remaining c.args.reader.now in
    told PartsTell (PlanBy c.args.options) input (g.W.Write.contents c.args.writer.now) (g.W.Write.contents c.write_answer-in-Err-Memory.new.writer) memory c.write_answer-in-Err-Memory.result (memory_answers PartsTell (PlanBy c.args.options) input) c.write_answer-in-Err-Memory.ensures.whole

pub returns-in-Err-Memory-clause-unwritten : goal.returns-in-Err-Memory-clause-unwritten
returns-in-Err-Memory-clause-unwritten g c =
    let input = g.R.Read.remaining c.args.reader.now in
    told_part PartsTell (PlanBy c.args.options) input (g.W.Write.contents c.args.writer.now) (g.W.Write.contents c.write_answer-in-Err-Memory.new.writer) memory c.write_answer-in-Err-Memory.result (memory_answers PartsTell (PlanBy c.args.options) input) c.write_answer-in-Err-Memory.ensures.part
