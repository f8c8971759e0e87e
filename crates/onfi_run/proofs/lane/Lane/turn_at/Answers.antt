use Rattle.std.proofs.Common.{sym, subst, arith, ap, ◌∙◌, false}
use Rattle.std.specs.Prelude.{IfSome}
use Rattle.onfi_run.specs.Ending.{IsOverAt, is_spent}
use Rattle.onfi_run.proofs.Limits.{ends_over, thread_over}
use Rattle.onfi_run.proofs.Resting.{due_by, ended_waits, not_due}
use Rattle.onfi_run.proofs.lane.Lane.turn_at.Goals as goal

pub returns-then-self-clause-waits : goal.returns-then-self-clause-waits
returns-then-self-clause-waits g c stayed = ended_waits c.args.now c.args.self.now.pace (g.C.Channel.free c.args.self.now.channel) c.if-self.true

pub returns-then-due-now-clause-waits : goal.returns-then-due-now-clause-waits
returns-then-due-now-clause-waits g c stayed =
    not_due c.args.now c.args.self.now.pace (g.C.Channel.free c.args.self.now.channel) (omega (arith, c.due.ensures, c.if-due-now.true))

pub returns-clause-due : goal.returns-clause-due
returns-clause-due g c turned =
    due_by c.args.now c.args.self.now.pace (g.C.Channel.free c.args.self.now.channel) c.if-self.false (omega (arith, c.due.ensures, c.if-due-now.false))

pub returns-clause-turned : goal.returns-clause-turned
returns-clause-turned g c turned =
    let kept = c.end_after-end.ensures.ended in
    let end = c.end_after-end.ensures.end in
    let told = c.unwrap_or-self.ensures in
    let pace = c.end_after-end.ensures.pace in
    let channel = c.end_after-end.ensures.channel in
    let last = c.is_some.ensures in
    let free = c.bus_free-free.ensures in
    let ready = c.next_ready-ready.ensures in
    let paced = c.turn.ensures in
    let proceeds = g.C.Channel.proceeds c.args.now c.args.self.now.channel c.turn-progress.result in
    (c.turn-progress.result, subst proceeds (sym channel) c.turn-progress.ensures.turned, record { ended = cc; refusals = c.end_after-end.ensures.refusals; pace = cc })

pub returns-clause-over : goal.returns-clause-over
returns-clause-over g c was =
    let limit = (g.C.Channel.queues c.args.self.now.channel).nodes in
    let told = c.end_after-end.ensures in
    let turn = c.turn-progress.ensures in
    let ends = subst (λ e. IfSome e (IsOverAt limit)) (sym told.end) (thread_over limit (is_spent c.args.self.now.refusals) false c.turn-progress.result turn.over) in
    let before = subst (IsOverAt limit) (sym told.ended) was in
    let over = ends_over limit c.end_after-end.result _ c.unwrap_or-self.result ends before c.unwrap_or-self.ensures in
    let same = ap (g.C.Channel.queues) told.channel ∙ turn.same in
    subst (λ q. IsOverAt q.nodes c.unwrap_or-self.result) (sym same) over
