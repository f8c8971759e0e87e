use Rattle.std.proofs.Common.{◌∙◌, ap}
use Rattle.onfi_steady.specs.declared.dispatcher.Dispatcher.{Dispatcher}
use Rattle.onfi_calls.specs.Dispatching.{isnt_early}
use Rattle.onfi_calls.specs.Status.{number_of}
use Rattle.onfi_calls.proofs.dispatching.onfi_dispatcher_ready.Goals as goal

pub returns-in-Err : goal.returns-in-Err
returns-in-Err c =
    isnt_early c.in-Err.fault c.in-Err.ensures.refused (ap (λ (z : Dispatcher). record c.args.dispatcher.now { dispatcher = z }) c.in-Err.ensures.same)
    (c.number-in-Err.ensures ∙ ap number_of c.of_ready.ensures)
