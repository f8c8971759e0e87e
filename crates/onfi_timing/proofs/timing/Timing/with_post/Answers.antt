use Rattle.std.proofs.Common.{◌≡◌, ◌+◌, suc, subst, arith}
use Rattle.std.specs.Prelude.{IfOk}
use Rattle.onfi_timing.specs.Kinds.{StatesToo}
use Rattle.onfi_timing.proofs.timing.Timing.with_post.Goals as goal

pub returns-clause-others : goal.returns-clause-others
returns-clause-others c n other =
    let after : StatesToo c.args.self c.unwrap.result (c.args.before + 1) c.args.post = subst (λ r. IfOk r (λ t. StatesToo c.args.self t (c.args.before + 1) c.args.post)) c.unwrap.ensures c.with_sectors.ensures.ok in
    after.others (suc n) (λ e. other (omega arith))
