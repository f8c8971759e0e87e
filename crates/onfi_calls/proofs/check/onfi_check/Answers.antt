use Rattle.std.proofs.Common.{subst}
use Rattle.onfi_calls.specs.Check.{IsRefusedBy, is_unsaid}
use Rattle.onfi_calls.proofs.Verdicts.{verdict_given}
use Rattle.onfi_calls.proofs.check.onfi_check.Goals as goal

pub returns-in-Ok : goal.returns-in-Ok
returns-in-Ok c =
    verdict_given c.in-Ok.stand.problem.problem c.in-Ok.stand.schedule c.args.below c.judge.result c.in-Ok.ensures.said c.judge.ensures.shown c.judge.ensures.finish c.judge.ensures.refused
    c.give_verdict.ensures.accepted c.give_verdict.ensures.refused

pub returns-in-Err : goal.returns-in-Err
returns-in-Err c =
    is_unsaid c.in-Err.status c.in-Err.ensures.none (subst (λ refusal. IsRefusedBy refusal c.give_verdict-in-Err.new.verdict c.give_verdict-in-Err.result)
    c.whole.ensures c.give_verdict-in-Err.ensures.refused)
