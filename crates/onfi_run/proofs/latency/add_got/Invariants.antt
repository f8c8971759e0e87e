use Rattle.std.proofs.Common.{◌≡◌, ◌++◌, take}
use Rattle.std.specs.Prelude.{filter_map}
use Rattle.std.specs.List.{flat_map}
use Rattle.onfi_run.specs.Latency.{latency_of}
use Rattle.onfi_run.proofs.latency.add_got.Given as goal

abbrev pub invariant-loop-answers : goal.invariant-loop-answers
invariant-loop-answers l = l.latencies.items ≡ l.fn.latencies.items ++ flat_map (filter_map (latency_of l.operation)) (take l.answers-index l.got)
