use Rattle.std.proofs.Common.{refl, ap, ◌∙◌, subst, arith}
use Rattle.std.specs.Option.{unwrap_or}
use Rattle.onfi_known_check.specs.Faults.{IsKnownFault}
use Rattle.onfi_known_check.proofs.Refused.{known_fault}
use Rattle.onfi_known_check.proofs.checking.check_source.Goals as goal

pub returns-in-Err-clause-fault : goal.returns-in-Err-clause-fault
returns-in-Err-clause-fault g c =
    let p = c.args.problem.now.problem in
    let tokens = g.S.TokenSource.left c.args.tokens.now.source in
    let ends = c.finish-e.ensures in
    let fault = known_fault c.args.problem.now.all p c.args.schedule.now c.unwrap_or-below.result tokens c.in-Err.fault (c.if-not-legal.ensures.0 refl) (omega arith) c.in-Err.ensures.refused c.in-Err.ensures.kind in
    subst (λ n. IsKnownFault c.args.problem.now.all p c.args.schedule.now n tokens c.in-Err.fault) (c.unwrap_or-below.ensures ∙ ap (unwrap_or c.args.below) ends) fault
