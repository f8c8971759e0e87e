use Rattle.std.proofs.Common.{inr, refl}
use Rattle.onfi_calls.proofs.due.phase_on.Goals as goal

pub returns-in-None-clause-none : goal.returns-in-None-clause-none
returns-in-None-clause-none c = inr (c.in-Some.geometry, c.in-Some.ensures.some, c.in-None.ensures.none, refl)
