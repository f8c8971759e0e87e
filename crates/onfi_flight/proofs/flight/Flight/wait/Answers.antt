use Rattle.std.proofs.Common.{refl, ap, ◌∙◌, arith}
use Rattle.std.specs.Prelude.{max}
use Rattle.onfi_flight.specs.Flight.{Flight}
use Rattle.onfi_flight.proofs.Lags.{early_groups, early_rest, lag_read, latest_read}
use Rattle.onfi_flight.proofs.Stays.{wait_is}
use Rattle.onfi_flight.proofs.flight.Flight.wait.Goals as goal

pub delay_schedule-requires-clause-rest : goal.delay_schedule-requires-clause-rest
delay_schedule-requires-clause-rest c =
    let low = latest_read c.self.inside.left c.self.inside.left c.rest.result.now c.groups.result.now refl c.rest.ensures.value c.groups.ensures.value c.lag_of-lag.ensures.latest in
    early_rest c.lag_of-lag.result.by c.self.inside.left (omega (arith, low, c.max.ensures, c.saturating_add.ensures, c.if-max-ge-END.false))

pub delay_schedule-requires-clause-groups : goal.delay_schedule-requires-clause-groups
delay_schedule-requires-clause-groups c =
    let low = latest_read c.self.inside.left c.self.inside.left c.rest.result.now c.groups.result.now refl c.rest.ensures.value c.groups.ensures.value c.lag_of-lag.ensures.latest in
    early_groups c.lag_of-lag.result.by c.self.inside.left (omega (arith, low, c.max.ensures, c.saturating_add.ensures, c.if-max-ge-END.false))

pub returns-clause-waited : goal.returns-clause-waited
returns-clause-waited c = (
  c.max-self-inside.ensures ∙ ap (λ (f : Flight). max f.now.bus_free c.args.moment) c.self.view_is,
  wait_is _ c.args.self.now c.args.moment _ _ _ c.self.view_is c.max-self-inside.ensures
      (lag_read c.args.moment c.self.inside.left c.rest.result.now c.groups.result.now c.rest.ensures.value c.groups.ensures.value c.lag_of-lag.ensures.by) c.delay_schedule.ensures,
)
