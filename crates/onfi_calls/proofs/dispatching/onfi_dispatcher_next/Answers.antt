use Rattle.std.proofs.Common.{inl, inr, refl, subst}
use Rattle.onfi_calls.specs.declared.status.Status.TheVariants.{NothingDue}
use Rattle.onfi_calls.specs.Dispatching.{IsPhaseOutside, IsPhaseSaid, IsSeen, gives_next, gives_none, is_idle, is_late, is_outside}
use Rattle.onfi_calls.proofs.dispatching.onfi_dispatcher_next.Goals as goal

pub returns-in-None : goal.returns-in-None
returns-in-None c =
    let seen : IsSeen c.args.dispatcher.now (record c.args.dispatcher.now { dispatcher = c.next.new.self }) = record {
      books = c.next.ensures.same;
      states = c.next.ensures.states;
      bus_free = c.next.ensures.bus_free;
      device = refl;
    } in
    gives_none NothingDue seen (λ timing books is. is_idle (c.in-None.ensures.next timing books is) (c.in-None.ensures.empty timing books is) refl) refl c.number-in-None.ensures

pub returns-in-Ok : goal.returns-in-Ok
returns-in-Ok c =
    let next = c.in-Some.next in
    let seen : IsSeen c.args.dispatcher.now (record c.args.dispatcher.now { dispatcher = c.next.new.self }) = record {
      books = c.next.ensures.same;
      states = c.next.ensures.states;
      bus_free = c.next.ensures.bus_free;
      device = refl;
    } in
    gives_next seen
    (λ timing books is.
    let said = c.in-Ok.ensures.phase.1 timing books next (c.next.ensures.same timing books is) c.in-Some.ensures.due in
    record {
      next = next;
      is = c.in-Some.ensures.next timing books is;
      due = c.in-Some.ensures.due;
      geometry = said.0;
      device = said.1;
      said = subst (λ luns. IsPhaseSaid timing said.0 luns next.lun next.members.items next.start c.in-Ok.due) c.next.ensures.states said.2;
    }) refl

pub returns-in-Err : goal.returns-in-Err
returns-in-Err c =
    let next = c.in-Some.next in
    let seen : IsSeen c.args.dispatcher.now (record c.args.dispatcher.now { dispatcher = c.next.new.self }) = record {
      books = c.next.ensures.same;
      states = c.next.ensures.states;
      bus_free = c.next.ensures.bus_free;
      device = refl;
    } in
    elim c.in-Err.ensures.none [
      | inl late ↦ gives_none c.in-Err.status seen (λ timing books is. is_late next (c.in-Some.ensures.next timing books is) late.0 late.1) refl c.number-in-Err.ensures
      | inr off ↦ gives_none c.in-Err.status seen
          (λ timing books is.
          let out = off timing books next (c.next.ensures.same timing books is) c.in-Some.ensures.due in
          is_outside next out.0 (c.in-Some.ensures.next timing books is) out.1
          (subst (λ luns. IsPhaseOutside out.0 luns next.lun next.members.items) c.next.ensures.states out.2) out.3) refl c.number-in-Err.ensures
    ]
