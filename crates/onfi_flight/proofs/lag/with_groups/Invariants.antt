use Rattle.std.proofs.Common.{◌≡◌, drop}
use Rattle.std.specs.Prelude.{max}
use Rattle.std.specs.List.{flat_map}
use Rattle.onfi_schedule.specs.Schedule.{Placed}
use Rattle.onfi_flight.specs.Times.{lag, latest_start}
use Rattle.onfi_flight.proofs.lag.with_groups.Given as goal

abbrev pub invariant-loop-placed : goal.invariant-loop-placed
invariant-loop-placed l = record {
  by : max l.all.by (lag l.moment (flat_map (λ (g : Placed). g.starts) (drop l.placed-index l.groups))) ≡ max l.fn.rest.by (lag l.moment (flat_map (λ (g : Placed). g.starts) l.groups));
  latest : max l.all.latest (latest_start (flat_map (λ (g : Placed). g.starts) (drop l.placed-index l.groups))) ≡ max l.fn.rest.latest (latest_start (flat_map (λ (g : Placed). g.starts) l.groups));
}
