use Rattle.std.proofs.Common.{◌≡◌, drop}
use Rattle.std.specs.Prelude.{max}
use Rattle.std.specs.List.{flat_map}
use Rattle.onfi_flight.specs.Times.{lag, latest_start}
use Rattle.onfi_flight.proofs.lag.of_rest.Given as goal

abbrev pub invariant-loop-starts : goal.invariant-loop-starts
invariant-loop-starts l = record {
  by : max l.all.by (lag l.moment (flat_map (λ starts. starts) (drop l.starts-index l.rest))) ≡ lag l.moment (flat_map (λ starts. starts) l.rest);
  latest : max l.all.latest (latest_start (flat_map (λ starts. starts) (drop l.starts-index l.rest))) ≡ latest_start (flat_map (λ starts. starts) l.rest);
}
