use Rattle.std.proofs.Common.{◌≡◌, take}
use Rattle.onfi_steady.specs.Dispatcher.{IsOf, states_of}
use Rattle.onfi_steady.proofs.Batch.{first_books}
use Rattle.onfi_steady.proofs.dispatcher.Dispatcher.accept_batch.Given as goal

abbrev pub invariant-loop-want : goal.invariant-loop-want
invariant-loop-want l = record {
  is : IsOf l.problem.problem.timing (first_books l.problem.problem (take l.want-index l.wants) l.self) l.self;
  states : states_of l.self ≡ states_of l.fn.self;
  bus_free : l.self.bus_free ≡ l.fn.self.bus_free;
}
