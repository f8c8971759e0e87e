use Rattle.std.proofs.Common.{◌≡◌, ◌<◌, ◌∙◌, List, ap, length, subst, sym, take}
use Rattle.std.specs.List.{AllByRecursion as All}
use Rattle.onfi_timing.specs.declared.spans.Spans.{Spans}
use Rattle.onfi_steady.specs.declared.lun_books.LunBooks.{LunBooks}
use Rattle.onfi_steady.specs.Selecting.{AreLuns}
use Rattle.onfi_steady.proofs.Following.{none_left}
use Rattle.onfi_steady.proofs.dispatcher.Dispatcher.choose.Goals as goal

pub returns-clause-empty : goal.returns-clause-empty
returns-clause-empty c = λ timing books is.
    let d = c.args.self.now in
    let shown : take c.from.result d.lun ≡ take d.due.luns d.lun = ap (λ n. take n d.lun) c.from.ensures in
    let array = ap (λ (s : Spans). s.array) (c.of_kind-array.ensures timing is.spans) in
    let next = c.first_phase.ensures.next timing books (subst (AreLuns timing books) (sym shown) is.luns) is.planes array (c.number.ensures ∙ is.newest) in
    none_left _ timing books c.max-from.result (take c.from.result d.lun) c.first_phase.result (subst (λ (ls : List LunBooks). All (λ w. w.want.lun < length ls) books.waiting) (sym shown) is.there) next
