use Rattle.std.proofs.Common.{◌∙◌, sym}
use Rattle.onfi_calls.proofs.Breaches.{timed_as_left}
use Rattle.onfi_calls.proofs.broken.time_broken.Goals as goal

pub returns-in_default : goal.returns-in_default
returns-in_default c =
    let left = c.in_default in
    c.in_the_way.ensures ∙ sym (timed_as_left c.args.breach left.not-BusNotFree left.not-NotReady left.not-RunningGroupLeft left.not-LunNotFree)
