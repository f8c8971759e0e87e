use Rattle.onfi_calls.proofs.Texts.{written_is_answer}
use Rattle.onfi_calls.proofs.text.answer_script.Goals as goal

pub returns-in-Ok : goal.returns-in-Ok
returns-in-Ok c = written_is_answer c.args.command c.args.input.now c.new-text.result.items c.engine.new.writer.items c.in-Ok.status c.new-text.ensures.items c.in-Ok.ensures.answer
