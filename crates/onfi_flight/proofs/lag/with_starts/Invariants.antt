use Rattle.std.proofs.Common.{◌≡◌, drop}
use Rattle.std.specs.Prelude.{max}
use Rattle.onfi_flight.specs.Times.{lag, latest_start}
use Rattle.onfi_flight.proofs.lag.with_starts.Given as goal

abbrev pub invariant-loop-start : goal.invariant-loop-start
invariant-loop-start l = record {
  by : max l.all.by (lag l.moment (drop l.start-index l.starts)) ≡ max l.fn.before.by (lag l.moment l.starts);
  latest : max l.all.latest (latest_start (drop l.start-index l.starts)) ≡ max l.fn.before.latest (latest_start l.starts);
}
