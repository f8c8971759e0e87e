use Rattle.std.proofs.Common.{sym, subst}
use Rattle.std.specs.Prelude.{IfSome}
use Rattle.onfi_run.specs.Ending.{IsOverAt}
use Rattle.onfi_run.proofs.Limits.{thread_over}
use Rattle.onfi_run.proofs.lane.Lane.step.Goals as goal

pub returns-clause-over : goal.returns-clause-over
returns-clause-over g c =
    let limit = (g.C.Channel.queues c.args.self.now.channel).nodes in
    subst (λ e. IfSome e (IsOverAt limit)) (sym c.end_after.ensures.end) (thread_over limit _ _ c.turn-progress.result c.turn-progress.ensures.over)
