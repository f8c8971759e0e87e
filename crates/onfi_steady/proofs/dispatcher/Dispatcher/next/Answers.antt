use Rattle.onfi_steady.proofs.Dispatching.{but_is}
use Rattle.onfi_steady.proofs.dispatcher.Dispatcher.next.Goals as goal

pub returns-in-Some-clause-next : goal.returns-in-Some-clause-next
returns-in-Some-clause-next c = λ timing books is. (c.in-Some.ensures.next timing books is).next c.give.result c.give.ensures.phase

pub returns-in-Some-clause-same : goal.returns-in-Some-clause-same
returns-in-Some-clause-same c = λ timing books is. but_is timing books c.args.self.now c.give.new.self c.give.ensures.same is
