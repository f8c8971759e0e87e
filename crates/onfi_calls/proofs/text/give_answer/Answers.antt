use Rattle.std.proofs.Common.{subst}
use Rattle.onfi_calls.specs.Room.{Gives}
use Rattle.onfi_calls.specs.Text.{answer_of}
use Rattle.onfi_calls.proofs.Texts.{memory_is_answer}
use Rattle.onfi_calls.proofs.text.give_answer.Goals as goal

pub returns-in-None : goal.returns-in-None
returns-in-None c = memory_is_answer c.args.asked c.args.input.now c.args.answer.now c.give-in-None.new.room c.give-in-None.new.bytes c.give-in-None.result c.give-in-None.ensures

pub returns-in-Some : goal.returns-in-Some
returns-in-Some c =
    let given = subst (λ status. Gives c.as_slice.result.now status c.args.answer.now c.give.new.room c.give.new.bytes c.give.result) c.from.ensures c.give.ensures in
    record {
      answer = answer_of c.in-Some.answered;
      is_answer = c.in-Some.ensures;
      gives = subst (λ text. Gives text c.in-Some.answered.status c.args.answer.now c.give.new.room c.give.new.bytes c.give.result) c.as_slice.ensures.value given;
    }
