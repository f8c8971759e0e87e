use Rattle.std.proofs.Common.{◌≡◌, take}
use Rattle.onfi_run.specs.Latency.{latencies}
use Rattle.onfi_run.proofs.latency.latencies.Given as goal

abbrev pub invariant-loop-got : goal.invariant-loop-got
invariant-loop-got l = l.latencies.items ≡ latencies l.operation (take l.got-index l.all)
