use Rattle.onfi_console.specs.declared.parsed.Named.TheVariants.{Device}
use Rattle.onfi_script.specs.AnswerOf.{told_of}
use Rattle.onfi_script.specs.Text.{memory}
use Rattle.onfi_sim.proofs.Told.{all_answers, begun, described, memory_told, told, told_part}
use Rattle.onfi_sim.proofs.carrying_out.carry_out_device.Goals as goal

pub returns-in-Ok-clause-unwritten : goal.returns-in-Ok-clause-unwritten
returns-in-Ok-clause-unwritten g c =
    let is = all_answers Device (g.I.Read.remaining c.args.reader.now) c.in-Ok.input.items c.describe.result c.in-Ok.ensures (described c.in-Ok.input.items c.describe.result (rw c.as_slice.ensures.value at c.describe.ensures)) in
    told_part Device (g.I.Read.remaining c.args.reader.now) (g.W.Write.contents c.args.writer.now) (g.W.Write.contents c.write_answer.new.writer) (told_of c.describe.result) c.write_answer.result is c.write_answer.ensures.part

pub returns-in-Err-clause-answer : goal.returns-in-Err-clause-answer
returns-in-Err-clause-answer g c =
    told Device (g.I.Read.remaining c.args.reader.now) (g.W.Write.contents c.args.writer.now) (g.W.Write.contents c.write_unread.new.writer) memory c.write_unread.result (memory_told Device (g.I.Read.remaining c.args.reader.now)) c.write_unread.ensures.whole

pub returns-in-Err-clause-unwritten : goal.returns-in-Err-clause-unwritten
returns-in-Err-clause-unwritten g c e =
    begun Device (g.I.Read.remaining c.args.reader.now) (g.W.Write.contents c.args.writer.now) (g.W.Write.contents c.write_unread.new.writer) memory (memory_told Device (g.I.Read.remaining c.args.reader.now)) (c.write_unread.ensures.part e)
