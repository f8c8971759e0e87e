use Rattle.std.proofs.Common.{ap, refl, ◌∙◌}
use Rattle.onfi_steady.specs.declared.dispatcher.Dispatcher.{Dispatcher}
use Rattle.onfi_core.proofs.Booked.{free_luns}
use Rattle.onfi_core.proofs.way.books.BooksWay.open.Goals as goal

pub returns-in-Ok-clause-opened : goal.returns-in-Ok-clause-opened
returns-in-Ok-clause-opened c = record {
  timing_is = refl;
  books_are = c.new-in-Ok.ensures;
  bus = ap (λ (d : Dispatcher). d.bus_free) c.in-Ok.ensures.ok ∙ c.new-dispatcher.ensures.bus_free;
  luns_are = free_luns c.new-dispatcher.result c.in-Ok.dispatcher.value c.args.luns c.in-Ok.ensures.ok c.new-dispatcher.ensures.count c.new-dispatcher.ensures.free;
}
