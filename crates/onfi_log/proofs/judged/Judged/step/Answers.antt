use Rattle.std.proofs.Common.{sym, ◌∙◌}
use Rattle.onfi_log.proofs.Steps.{broken_steps, noted_steps}
use Rattle.onfi_log.proofs.judged.Judged.step.Goals as goal

pub go_on-requires-clause-from : goal.go_on-requires-clause-from
go_on-requires-clause-from c = (c.args.self.now, c.in-Some.ensures.unchanged ∙ c.in_ok-brought.ensures.brought.1, c.begins-begins.ensures, c.in_ok-brought.ensures.brought.0)

pub returns-in-None : goal.returns-in-None
returns-in-None c =
    let none = c.in-None.ensures.none in
    noted_steps c.args.self.now c.bring.new.self c.find_breach-breach.new.self c.note.new.self c.args.line.now c.begins-begins.result c.is_last-is_last.result c.find_misfit.result
    c.in_ok-brought.ensures.brought.1 c.begins-begins.ensures none.2 c.note.ensures c.is_last-is_last.ensures c.find_misfit.ensures
    (sym c.find_amiss-amiss.ensures ∙ none.0) none.1

pub returns-in_ok-go_on-in-Some : goal.returns-in_ok-go_on-in-Some
returns-in_ok-go_on-in-Some c =
    let j = c.args.self.now in
    let brought = c.in_ok-brought.ensures.brought in
    let goes = c.in_ok-go_on-in-Some.ensures j (c.in-Some.ensures.unchanged ∙ brought.1) c.begins-begins.ensures brought.0 in
    broken_steps j c.bring.new.self c.go_on.new.self c.args.line.now c.in-Some.field-0 c.find_amiss-amiss.result brought.1 c.find_amiss-amiss.ensures c.in-Some.ensures.breaks goes
    c.find_breach-breach.result c.in-Some.is
