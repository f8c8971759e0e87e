use Rattle.std.proofs.Common.{inr, refl}
use Rattle.onfi_calls.proofs.due.over_status.Goals as goal

pub returns-in-Some : goal.returns-in-Some
returns-in-Some c = inr (c.in-Some.field-0, c.in-Some.ensures.some, refl)
