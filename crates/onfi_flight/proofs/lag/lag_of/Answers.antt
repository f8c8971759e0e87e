use Rattle.std.proofs.Common.{ap, sym, ◌∙◌}
use Rattle.std.specs.List.{flat_map}
use Rattle.std.specs.Prelude.{max}
use Rattle.onfi_schedule.specs.Schedule.{Placed}
use Rattle.onfi_flight.specs.Times.{lag, latest_start}
use Rattle.onfi_flight.proofs.Lags.{lag_append, latest_append}
use Rattle.onfi_flight.proofs.lag.lag_of.Goals as goal

pub returns-clause-by : goal.returns-clause-by
returns-clause-by c =
    c.with_groups.ensures.by ∙ ap (λ n. max n (lag c.args.moment (flat_map (λ (g : Placed). g.starts) c.args.groups.now))) c.of_rest.ensures.by
    ∙ sym (lag_append c.args.moment (flat_map (λ starts. starts) c.args.rest.now) (flat_map (λ (g : Placed). g.starts) c.args.groups.now))

pub returns-clause-latest : goal.returns-clause-latest
returns-clause-latest c =
    c.with_groups.ensures.latest ∙ ap (λ n. max n (latest_start (flat_map (λ (g : Placed). g.starts) c.args.groups.now))) c.of_rest.ensures.latest
    ∙ sym (latest_append (flat_map (λ starts. starts) c.args.rest.now) (flat_map (λ (g : Placed). g.starts) c.args.groups.now))
