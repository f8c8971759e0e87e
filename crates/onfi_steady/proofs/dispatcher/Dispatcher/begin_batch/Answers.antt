use Rattle.std.proofs.Common.{◌∙◌, ap, subst, sym}
use Rattle.std.specs.List.{AllByRecursion as All}
use Rattle.onfi_flight.specs.Flight.{Flight}
use Rattle.onfi_steady.specs.LunBooks.{HasPhaseLeft}
use Rattle.onfi_steady.proofs.Batch.{for_batch, phases_left}
use Rattle.onfi_steady.proofs.dispatcher.Dispatcher.begin_batch.Goals as goal

pub begin-requires-clause-left : goal.begin-requires-clause-left
begin-requires-clause-left c =
    let luns = c.luns.ensures.value ∙ ap (λ (f : Flight). f.now.luns) c.of-flight.ensures in
    subst (All HasPhaseLeft) (sym luns) (phases_left c.args.problem.now.problem c.in_limits.ensures.limits.problem)

pub returns : goal.returns
returns c =
    let p = c.args.problem.now.problem in
    let luns = c.luns.ensures.value ∙ ap (λ (f : Flight). f.now.luns) c.of-flight.ensures in
    for_batch p c.accept_batch.new.self c.accept_batch.ensures.is (c.accept_batch.ensures.bus_free ∙ (c.begin.ensures.bus_free ∙ c.bus_free.ensures.value))
    (c.accept_batch.ensures.states ∙ (c.begin.ensures.states ∙ luns))
