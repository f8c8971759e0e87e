use Rattle.std.proofs.Common.{length, sym, ◌∙◌, arith}
use Rattle.std.proofs.lemmas.Bool.{eqb-true}
use Rattle.onfi_calls.proofs.InOrders.{one_said, runs_there}
use Rattle.onfi_calls.proofs.in_order.is_running.Goals as goal

pub returns-then-members-eq1 : goal.returns-then-members-eq1
returns-then-members-eq1 c = λ one.
    let not_zero = c.if-next-eq0.false in
    runs_there c.args.rules.now c.args.at c.args.next c.args.members.now _ (one_said c.args.rules.now c.args.rules.now.plane_bits c.args.members.now (eqb-true (length c.args.members.now) 1 one))
    (sym c.from.ensures ∙ c.if-from-at.false) (sym c.have_page.ensures ∙ c.if-have_page.false) (omega (arith, not_zero)) (omega (arith, c.from-else-next-eq0.ensures, c.if-from-members.false))

pub returns-else-members-eq1 : goal.returns-else-members-eq1
returns-else-members-eq1 c = λ is.
    let not_zero = c.if-next-eq0.false in
    runs_there c.args.rules.now c.args.at c.args.next c.args.members.now _ (c.are_group.ensures is)
    (sym c.from.ensures ∙ c.if-from-at.false) (sym c.have_page.ensures ∙ c.if-have_page.false) (omega (arith, not_zero)) (omega (arith, c.from-else-next-eq0.ensures, c.if-from-members.false))
