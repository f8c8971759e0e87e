use Rattle.std.proofs.Common.{List, ap, length, refl, subst, take}
use Rattle.onfi_steady.specs.declared.lun_books.LunBooks.{LunBooks}
use Rattle.onfi_steady.specs.Selecting.{NoneHolds}
use Rattle.onfi_steady.specs.Dispatcher.{luns_of}
use Rattle.onfi_steady.proofs.Changing.{none_waits}
use Rattle.onfi_steady.proofs.dispatcher.Dispatcher.cancel.Goals as goal

pub returns-in-None-clause-cancelled : goal.returns-in-None-clause-cancelled
returns-in-None-clause-cancelled c = λ timing books is.
    let d = c.args.self.now in
    let shown = ap (λ n. take n d.lun) c.from.ensures in
    (none_waits timing books (luns_of d) c.args.id is.luns is.there (subst (λ (z : List LunBooks). NoneHolds z c.args.id (length z)) shown c.in-None.ensures), refl)
