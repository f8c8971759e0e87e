use Rattle.std.proofs.Common.{◌≤◌, length, refl, subst, sym, ap, ◌∙◌}
use Rattle.std.specs.Prelude.{◌==◌}
use Rattle.onfi_request.specs.declared.want.Want.{Want}
use Rattle.std.proofs.Common.{List}
use Rattle.onfi_core.specs.Ways.{books_way}
use Rattle.onfi_core.proofs.Booked.{begin_due, not_nil, some_members}
use Rattle.onfi_core.proofs.way.books.BooksWay.due_of.Goals as goal

pub returns : goal.returns
returns c =
    let b = c.args.self.now in
    let phase = c.args.phase.now in
    let is = c.as_slice-members.ensures.value in
    let some = not_nil phase.members.items (sym (ap (λ (ws : List Want). length ws == 0) is) ∙ sym c.is_empty.ensures ∙ c.if-is_empty.false) in
    let size = subst (λ (ws : List Want). 1 ≤ length ws) (sym (c.of.ensures ∙ is)) (some_members phase.members.items some) in
    begin_due b.known.books (books_way b).now phase c.requires.next c.requires.in_time _ some size refl (c.of.ensures ∙ is) refl refl refl
