use Rattle.std.proofs.Common.{[], ◌++◌, ap, ◌∙◌}
use Rattle.std.specs.List.{cons_option}
use Rattle.onfi_run.specs.Latency.{latency_of}
use Rattle.onfi_run.proofs.Latencies.{picked_more}
use Rattle.onfi_run.proofs.latency.add.Goals as goal

pub loop-completion-preserved : goal.loop-completion-preserved
loop-completion-preserved c =
    picked_more (latency_of c.args.operation) c.args.all.now c.loop-completion.completion-index c.completion-item.result c.args.latencies.now.items c.loop-completion.latencies.items c.put.new.latencies.items
    c.loop-completion-test.true c.loop-completion.invariant
    (c.in_ok-put.ensures ∙ ap (λ o. c.loop-completion.latencies.items ++ cons_option o []) (c.latency.ensures ∙ ap (latency_of c.args.operation) c.completion-item.is))
