use Rattle.std.proofs.lemmas.Result.{err_from_is_err_and}
use Rattle.std.proofs.Common.{arith}
use Rattle.std.specs.Option.{unwrap_or}
use Rattle.onfi_schedule.specs.Schedule.{finish}
use Rattle.onfi_known_check.proofs.Reading.{read_on}
use Rattle.onfi_known_check.proofs.checking.check_text.Goals as goal

pub returns-in-Ok-clause-accepted : goal.returns-in-Ok-clause-accepted
returns-in-Ok-clause-accepted c =
    let r = read_on c.in-Some.ensures.text c.check_source-checked.ensures.behind c.check_source-checked.ensures.counted in
    (c.in-Some.tokens.source.tokens, c.in_ok-read_to_end.ensures.ok c.args.text.now c.in-Some.tokens.source r, c.in-Ok.ensures.accepted)

pub returns-in-Err-clause-fault : goal.returns-in-Err-clause-fault
returns-in-Err-clause-fault c =
    let r = read_on c.in-Some.ensures.text c.check_source-checked.ensures.behind c.check_source-checked.ensures.counted in
    (c.in-Some.tokens.source.tokens, c.in_ok-read_to_end.ensures.ok c.args.text.now c.in-Some.tokens.source r, c.in-Err.ensures.fault)

pub read_to_end-requires : goal.read_to_end-requires
read_to_end-requires c = let counted = c.check_source-checked.ensures.counted in let few = c.in-Some.ensures.few in omega arith

pub returns-in_err-read_to_end-clause-fault : goal.returns-in_err-read_to_end-clause-fault
returns-in_err-read_to_end-clause-fault c =
    let r = read_on c.in-Some.ensures.text c.check_source-checked.ensures.behind c.check_source-checked.ensures.counted in
    let p = err_from_is_err_and c.from_residual.result c.from_residual.ensures.1 in
    rw (p.1, p.2) (c.in_err-read_to_end.ensures.fault c.args.problem.now.all c.args.schedule.now (unwrap_or c.args.below (finish c.args.problem.now.problem c.args.schedule.now)) c.args.text.now c.in-Some.tokens.source r)
