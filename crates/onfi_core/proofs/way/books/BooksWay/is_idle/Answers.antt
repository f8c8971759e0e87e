use Rattle.std.proofs.Common.{sym, ◌∙◌}
use Rattle.onfi_core.proofs.Booked.{looked_left, twice_not}
use Rattle.onfi_core.proofs.way.books.BooksWay.is_idle.Goals as goal

pub returns : goal.returns
returns c = sym (looked_left c.args.self.now c.deref.result.now c.look.result c.deref.ensures c.requires c.look.ensures.next c.look.ensures.empty ∙ twice_not c.is_none.result _ c.is_none.ensures)
