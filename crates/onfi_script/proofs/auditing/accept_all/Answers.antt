use Rattle.std.proofs.Common.{Err, get_or, [], ◌∷◌}
use Rattle.std.proofs.lemmas.Result.{err_from_is_err_and}
use Rattle.onfi_script.specs.Auditing.{AcceptsAll}
use Rattle.onfi_script.proofs.Logs.{refused_at}
use Rattle.onfi_script.proofs.Scripts.{if_refused}
use Rattle.onfi_script.proofs.auditing.accept_all.Goals as goal

pub returns-in_err-accept : goal.returns-in_err-accept
returns-in_err-accept c =
    let ws = c.args.wants.now in
    let i = c.loop-want.want-index in
    let e = err_from_is_err_and c.from_residual.result c.from_residual.ensures.1 in
    rw (e.1, e.2) (if_refused c.in_err-accept.field-0.0 (λ refusal. AcceptsAll (get_or ws i _ ∷ []) c.loop-want.audit (Err refusal)) (λ refusal. AcceptsAll ws c.args.audit.now (Err refusal))
    (λ refusal h. refused_at ws i _ c.loop-want.audit c.args.audit.now refusal c.loop-want-test.true c.loop-want.invariant h) c.in_err-accept.ensures)
