use Rattle.std.proofs.Common.{ap, ◌∙◌}
use Rattle.std.specs.Prelude.{is_some, not}
use Rattle.onfi_core.proofs.Booked.{looked_left, looked_next}
use Rattle.onfi_core.proofs.way.books.BooksWay.due.Goals as goal

pub due_of-requires-clause-next : goal.due_of-requires-clause-next
due_of-requires-clause-next c = looked_next c.args.self.now c.deref.result.now c.look.result c.in-Some.phase c.deref.ensures c.requires.books c.look.ensures.next c.in-Some.is

pub returns-in-Some-clause-some : goal.returns-in-Some-clause-some
returns-in-Some-clause-some c = looked_left c.args.self.now c.deref.result.now c.look.result c.deref.ensures c.requires.books c.look.ensures.next c.look.ensures.empty ∙ ap (λ o. not (is_some o)) c.in-Some.is

pub returns-in-None-clause-none : goal.returns-in-None-clause-none
returns-in-None-clause-none c = looked_left c.args.self.now c.deref.result.now c.look.result c.deref.ensures c.requires.books c.look.ensures.next c.look.ensures.empty ∙ ap (λ o. not (is_some o)) c.in-None.is
