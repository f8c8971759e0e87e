use Rattle.std.proofs.Common.{◌≡◌, ◌++◌, take}
use Rattle.std.specs.Prelude.{filter_map}
use Rattle.onfi_run.specs.Latency.{latency_of}
use Rattle.onfi_run.proofs.latency.add.Given as goal

abbrev pub invariant-loop-completion : goal.invariant-loop-completion
invariant-loop-completion l = l.latencies.items ≡ l.fn.latencies.items ++ filter_map (latency_of l.operation) (take l.completion-index l.all)
