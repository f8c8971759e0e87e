use Rattle.onfi_flight.proofs.Begins.{done_exactly, never_stuck}
use Rattle.onfi_flight.proofs.flight.Flight.due.Goals as goal

pub returns-in-Some-Next-clause-done : goal.returns-in-Some-Next-clause-done
returns-in-Some-Next-clause-done c = λ flight. done_exactly c.args.self.now c.next_of.result flight c.next_of.ensures

pub returns-in-Some-First-clause-done : goal.returns-in-Some-First-clause-done
returns-in-Some-First-clause-done c = λ flight. done_exactly c.args.self.now c.first_of.result flight c.first_of.ensures

pub returns-in-None-clause-done : goal.returns-in-None-clause-done
returns-in-None-clause-done c = λ flight. done_exactly c.args.self.now c.without_start.result flight c.without_start.ensures

pub returns-in-Some-Next-clause-legal : goal.returns-in-Some-Next-clause-legal
returns-in-Some-Next-clause-legal c = λ flight. never_stuck c.args.self.now c.next_of.result flight c.next_of.ensures

pub returns-in-Some-First-clause-legal : goal.returns-in-Some-First-clause-legal
returns-in-Some-First-clause-legal c = λ flight. never_stuck c.args.self.now c.first_of.result flight c.first_of.ensures

pub returns-in-None-clause-legal : goal.returns-in-None-clause-legal
returns-in-None-clause-legal c = λ flight. never_stuck c.args.self.now c.without_start.result flight c.without_start.ensures
