use Rattle.std.proofs.Common.{refl, subst}
use Rattle.onfi_calls.specs.Plan.{GivesAsked, gives, gives_none}
use Rattle.onfi_calls.proofs.plan.onfi_plan.Goals as goal

pub returns-in-Ok : goal.returns-in-Ok
returns-in-Ok c =
    gives c.in-Ok.found.text.items c.in-Ok.ensures.found
    (subst (λ text. GivesAsked text c.args.certificate.now c.give_asked.new.room c.give_asked.new.bytes c.give_asked.result) c.as_slice.ensures.value c.give_asked.ensures)

pub returns-in-Err : goal.returns-in-Err
returns-in-Err c = gives_none c.in-Err.status c.in-Err.ensures.none (record { plan = refl; room = refl; none = refl; number = c.number.ensures })
