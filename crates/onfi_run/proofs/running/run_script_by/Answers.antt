use Rattle.std.proofs.Common.{◌≡◌, ℕ, subst, take}
use Rattle.std.specs.Prelude.{IfOk, IfErr}
use Rattle.std.specs.Io.KnownBytes.{Appends}
use Rattle.onfi_script.specs.AnswerOf.{answer_of}
use Rattle.onfi_script.specs.declared.transfer.EngineFault.TheVariants.{Write}
use Rattle.onfi_script.specs.Text.{memory}
use Rattle.onfi_run.specs.Ending.{nodes_by}
use Rattle.onfi_run.specs.Running.{IsAnswer}
use Rattle.onfi_run.proofs.Told.{answered, memory_answers, told, told_part}
use Rattle.onfi_run.proofs.running.run_script_by.Goals as goal

pub returns-in-Err-Memory-clause-answer : goal.returns-in-Err-Memory-clause-answer
returns-in-Err-Memory-clause-answer g c =
    let input = g.I.Read.remaining c.args.reader.now in
    told c.args.clocked (nodes_by c.args.way.choice c.args.way.limit) input (g.O.Write.contents c.args.writer.now) (g.O.Write.contents c.write_with_status.new.writer) memory c.write_with_status.result (memory_answers c.args.clocked (nodes_by c.args.way.choice c.args.way.limit) input) c.write_with_status.ensures.whole

pub returns-in-Err-Memory-clause-unwritten : goal.returns-in-Err-Memory-clause-unwritten
returns-in-Err-Memory-clause-unwritten g c =
    let input = g.I.Read.remaining c.args.reader.now in
    told_part c.args.clocked (nodes_by c.args.way.choice c.args.way.limit) input (g.O.Write.contents c.args.writer.now) (g.O.Write.contents c.write_with_status.new.writer) memory c.write_with_status.result (memory_answers c.args.clocked (nodes_by c.args.way.choice c.args.way.limit) input) c.write_with_status.ensures.part

pub returns-in-Ok-answer-clause-answer : goal.returns-in-Ok-answer-clause-answer
returns-in-Ok-answer-clause-answer g c =
    let input = g.I.Read.remaining c.args.reader.now in
    let old = g.O.Write.contents c.args.writer.now in
    let new = g.O.Write.contents c.write_with_status-in-Ok-answer.new.writer in
    let a = answer_of c.in-Ok-answer.traced.answer in
    let is = subst (λ xs. IsAnswer c.args.clocked (nodes_by c.args.way.choice c.args.way.limit) xs a) c.as_slice.ensures.value c.in-Ok-answer.ensures.answer in
    let whole = subst (λ text. IfOk c.write_with_status-in-Ok-answer.result (λ s. (s ≡ a.status) × Appends old new text)) c.as_slice-in-Ok-answer.ensures.value c.write_with_status-in-Ok-answer.ensures.whole in
    told c.args.clocked (nodes_by c.args.way.choice c.args.way.limit) input old new a c.write_with_status-in-Ok-answer.result (answered c.args.clocked (nodes_by c.args.way.choice c.args.way.limit) input c.in-Ok.input.items a c.in-Ok.ensures is) whole

pub returns-in-Ok-answer-clause-unwritten : goal.returns-in-Ok-answer-clause-unwritten
returns-in-Ok-answer-clause-unwritten g c =
    let input = g.I.Read.remaining c.args.reader.now in
    let old = g.O.Write.contents c.args.writer.now in
    let new = g.O.Write.contents c.write_with_status-in-Ok-answer.new.writer in
    let a = answer_of c.in-Ok-answer.traced.answer in
    let is = subst (λ xs. IsAnswer c.args.clocked (nodes_by c.args.way.choice c.args.way.limit) xs a) c.as_slice.ensures.value c.in-Ok-answer.ensures.answer in
    let part = subst (λ text. IfErr c.write_with_status-in-Ok-answer.result (λ e. (e ≡ Write) × (n : ℕ) × Appends old new (take n text))) c.as_slice-in-Ok-answer.ensures.value c.write_with_status-in-Ok-answer.ensures.part in
    told_part c.args.clocked (nodes_by c.args.way.choice c.args.way.limit) input old new a c.write_with_status-in-Ok-answer.result (answered c.args.clocked (nodes_by c.args.way.choice c.args.way.limit) input c.in-Ok.input.items a c.in-Ok.ensures is) part

pub returns-clause-answer : goal.returns-clause-answer
returns-clause-answer g c =
    let input = g.I.Read.remaining c.args.reader.now in
    told c.args.clocked (nodes_by c.args.way.choice c.args.way.limit) input (g.O.Write.contents c.args.writer.now) (g.O.Write.contents c.write_with_status-in-Err.new.writer) memory c.write_with_status-in-Err.result (memory_answers c.args.clocked (nodes_by c.args.way.choice c.args.way.limit) input) c.write_with_status-in-Err.ensures.whole

pub returns-clause-unwritten : goal.returns-clause-unwritten
returns-clause-unwritten g c =
    let input = g.I.Read.remaining c.args.reader.now in
    told_part c.args.clocked (nodes_by c.args.way.choice c.args.way.limit) input (g.O.Write.contents c.args.writer.now) (g.O.Write.contents c.write_with_status-in-Err.new.writer) memory c.write_with_status-in-Err.result (memory_answers c.args.clocked (nodes_by c.args.way.choice c.args.way.limit) input) c.write_with_status-in-Err.ensures.part
