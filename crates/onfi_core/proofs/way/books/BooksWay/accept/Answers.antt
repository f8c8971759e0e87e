use Rattle.onfi_core.proofs.Booked.{never_refused, none_some}
use Rattle.onfi_core.proofs.way.books.BooksWay.accept.Goals as goal

pub unreachable-requires : goal.unreachable-requires
unreachable-requires c =
    let r = c.requires in
    none_some _ (never_refused c.args.self.now c.deref_mut.result.now c.args.want.now c.deref_mut.ensures.value r.books r.lun r.room r.next) c.in-Err.ensures.refused
