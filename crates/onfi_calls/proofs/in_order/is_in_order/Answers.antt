use Rattle.std.proofs.Common.{sym, ◌∙◌, arith}
use Rattle.onfi_calls.proofs.InOrders.{limits_of, some_luns}
use Rattle.onfi_calls.proofs.in_order.is_in_order.Goals as goal

pub returns-clause-limits : goal.returns-clause-limits
returns-clause-limits c = λ timing rise.
    let sooner = c.if-bus_free-ge-HALF.false in
    limits_of timing c.args.rules.now c.args.bus_free c.args.luns.now c.args.wants.now c.args.rules.now.few_planes c.requires.few.0 c.requires.few.1
    (some_luns _ (sym c.is_empty.ensures ∙ c.if-is_empty.false)) (omega (arith, sooner)) (c.are_early.ensures c.if-not-are_early.false) (c.are_luns.ensures c.if-not-are_luns.false)
    (sym c.have_page.ensures ∙ c.if-have_page.false) (sym c.have_foreign.ensures ∙ c.if-have_foreign.false) (c.are_rising.ensures.0 rise)
