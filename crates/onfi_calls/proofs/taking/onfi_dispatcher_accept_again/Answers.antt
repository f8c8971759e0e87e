use Rattle.std.proofs.Common.{◌≡◌, ◌≤◌, ◌∙◌, Some, ap, refl, subst, sym}
use Rattle.onfi_audit.proofs.Judging.{few_planes}
use Rattle.onfi_request.specs.declared.want.Want.{Want}
use Rattle.onfi_steady.specs.declared.dispatcher.Dispatcher.{Dispatcher}
use Rattle.onfi_steady.specs.Dispatcher.{again_refusal}
use Rattle.onfi_calls.specs.Dispatching.{takes_not}
use Rattle.onfi_calls.specs.Status.{accept_status, number_of}
use Rattle.onfi_calls.proofs.Dispatched.{told_first, told_then}
use Rattle.onfi_calls.proofs.taking.onfi_dispatcher_accept_again.Goals as goal

pub returns-in-Some : goal.returns-in-Some
returns-in-Some c = takes_not c.in-Some.status (told_first _ _ c.in-Some.status (sym c.refusal_of.ensures ∙ c.in-Some.is)) refl c.number.ensures

pub accept_again-requires : goal.accept_again-requires
accept_again-requires c = record {
  plane = subst (λ (w : Want). w.plane ≤ 3) (sym c.want_of-want.ensures) (few_planes c.args.dispatcher.now.device.plane_bits c.args.want.now.block c.args.dispatcher.now.device.few_planes);
}

pub returns-in-Err : goal.returns-in-Err
returns-in-Err c =
    let refused = subst (λ (w : Want). again_refusal c.args.dispatcher.now.dispatcher w ≡ Some c.in-Err.fault) c.want_of-want.ensures c.in-Err.ensures.refused in
    takes_not (accept_status c.in-Err.fault) (told_then _ _ c.in-Err.fault (sym c.refusal_of.ensures ∙ c.in_default.is) refused)
    (ap (λ (z : Dispatcher). record c.args.dispatcher.now { dispatcher = z }) c.in-Err.ensures.same) (c.number-in-Err.ensures ∙ ap number_of c.of_accept.ensures)
