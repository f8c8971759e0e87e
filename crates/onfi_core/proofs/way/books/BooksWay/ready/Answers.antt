use Rattle.std.proofs.Common.{◌≡◌, None, subst, sym}
use Rattle.onfi_steady.specs.Dispatcher.{ready_refusal}
use Rattle.onfi_core.proofs.Booked.{array_open, none_some}
use Rattle.onfi_core.proofs.way.books.BooksWay.ready.Goals as goal

pub unreachable-requires : goal.unreachable-requires
unreachable-requires c =
    let open' = array_open c.args.self.now.dispatcher.value c.args.lun c.requires.in_array in
    none_some _ (subst (λ d. ready_refusal d c.args.lun ≡ None) (sym c.deref_mut.ensures.value) open') c.in-Err.ensures.refused
