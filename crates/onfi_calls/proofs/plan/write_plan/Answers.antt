use Rattle.std.proofs.Common.{refl}
use Rattle.onfi_calls.proofs.plan.write_plan.Goals as goal

pub returns-in-Ok-certificate_text-clause-plan : goal.returns-in-Ok-certificate_text-clause-plan
returns-in-Ok-certificate_text-clause-plan c = record {
  own = c.in-Ok.own;
  planned = c.in-Ok.ensures.plan;
  spelled = rw c.rules.ensures at c.in-Ok-certificate_text.ensures;
  schedule = c.legal_schedule.ensures;
  finish = refl;
  below = refl;
  opened = refl;
}
