use Rattle.std.proofs.Common.{sym, subst, ◌∙◌}
use Rattle.onfi_run.specs.Ending.{IsOverAt}
use Rattle.onfi_run.proofs.Limits.{reported_over}
use Rattle.onfi_run.proofs.Proceeding.{done_complete}
use Rattle.onfi_run.proofs.finishing.conclude.Goals as goal

pub returns-clause-finished : goal.returns-clause-finished
returns-clause-finished c =
    let all = c.are_complete-is_complete in
    let whole = done_complete c.args.drained.end c.args.thread all.result c.either-short_of_memory.result in record {
      suited = all.ensures.suited;
      complete = λ done none. sym all.ensures.complete ∙ whole (sym c.channel_end.ensures ∙ done) none;
    }

pub returns-clause-over : goal.returns-clause-over
returns-clause-over c limit drained thread =
    subst (IsOverAt limit) (sym c.channel_end.ensures)
    (reported_over limit c.args.drained.end c.args.thread c.are_complete-is_complete.result c.either-short_of_memory.result drained thread)
