use Rattle.std.proofs.Common.{◌∙◌, sym}
use Rattle.onfi_calls.proofs.Breaches.{waited_as_left}
use Rattle.onfi_calls.proofs.broken.wait_broken.Goals as goal

pub returns-in_default : goal.returns-in_default
returns-in_default c = c.time_broken.ensures ∙ sym (waited_as_left c.args.breach c.in_default.not-WaitTooShort)
