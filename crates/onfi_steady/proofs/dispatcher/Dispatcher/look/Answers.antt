use Rattle.onfi_steady.proofs.dispatcher.Dispatcher.look.Goals as goal

pub returns-in-Some-clause-next : goal.returns-in-Some-clause-next
returns-in-Some-clause-next c = λ timing books is. (c.in-Some.ensures.next timing books is).next c.phase_of.result c.phase_of.ensures
