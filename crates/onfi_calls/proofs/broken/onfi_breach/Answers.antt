use Rattle.std.proofs.Common.{refl}
use Rattle.onfi_calls.specs.Broken.{gives_breach, refuses_breach}
use Rattle.onfi_calls.proofs.broken.onfi_breach.Goals as goal

pub returns-in-Ok : goal.returns-in-Ok
returns-in-Ok c = gives_breach c.in-Ok.stand.problem.problem c.in-Ok.stand.schedule c.in-Ok.ensures.said c.give_broken.ensures

pub returns-in-Err : goal.returns-in-Err
returns-in-Err c = refuses_breach c.in-Err.status c.in-Err.ensures.none refl c.number.ensures
