use Rattle.std.proofs.Common.{◌≡◌, ◌+◌, ◌-◌, ◌<◌, ◌^◌, sym, ap, ◌∙◌, subst, arith}
use Rattle.std.specs.List.{AllByRecursion as All}
use Rattle.onfi_schedule.specs.Schedule.{Placed, Schedule}
use Rattle.onfi_flight.specs.Flight.{Flight, left_behind}
use Rattle.onfi_flight.proofs.Lags.{behind_early, latest_read}
use Rattle.onfi_flight.proofs.flight.Flight.run_late.Goals as goal

pub delay_schedule-requires-clause-rest : goal.delay_schedule-requires-clause-rest
delay_schedule-requires-clause-rest c =
    let by = c.args.started - c.args.due.now.start in
    let left : c.self-2.inside.left ≡ left_behind c.args.self.now.left c.args.due.now = ap (λ (f : Flight). f.left) (c.self-2.view_is ∙ c.run.ensures) in
    let low = latest_read c.self.inside.left c.args.self.now.left c.rest.result.now c.groups.result.now (ap (λ (f : Flight). f.left) c.self.view_is) c.rest.ensures.value c.groups.ensures.value c.lag_of-lag.ensures.latest in
    subst (λ (s : Schedule). All (λ starts. All (λ t. t + by < 2 ^ 63) starts) s.rest) (sym left)
    (behind_early by c.args.self.now.left c.args.due.now (omega (arith, low, c.max.ensures, c.saturating_add.ensures, c.if-max-ge-END.false))).0

pub delay_schedule-requires-clause-groups : goal.delay_schedule-requires-clause-groups
delay_schedule-requires-clause-groups c =
    let by = c.args.started - c.args.due.now.start in
    let left : c.self-2.inside.left ≡ left_behind c.args.self.now.left c.args.due.now = ap (λ (f : Flight). f.left) (c.self-2.view_is ∙ c.run.ensures) in
    let low = latest_read c.self.inside.left c.args.self.now.left c.rest.result.now c.groups.result.now (ap (λ (f : Flight). f.left) c.self.view_is) c.rest.ensures.value c.groups.ensures.value c.lag_of-lag.ensures.latest in
    subst (λ (s : Schedule). All (λ (g : Placed). All (λ t. t + by < 2 ^ 63) g.starts) s.groups) (sym left)
    (behind_early by c.args.self.now.left c.args.due.now (omega (arith, low, c.max.ensures, c.saturating_add.ensures, c.if-max-ge-END.false))).1
