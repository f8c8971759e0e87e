use Rattle.std.proofs.Common.{sym, subst, ◌∙◌, arith}
use Rattle.onfi_check.specs.Tree.{AcceptsTokens}
use Rattle.onfi_calls.specs.Check.{is_plain, is_sooner}
use Rattle.onfi_calls.proofs.Verdicts.{shown_plain}
use Rattle.onfi_calls.proofs.check.judge.Goals as goal

pub returns-then-finish-below-clause-refused : goal.returns-then-finish-below-clause-refused
returns-then-finish-below-clause-refused c =
    let e = c.in-Ok.ensures in
    let stand = c.args.stand.now in
    let ends = e.optimal.1 in
    let sooner = c.if-finish-below.true in
    is_sooner e.accepted.0 e.accepted.1 (subst (AcceptsTokens e.accepted.0 stand.problem.problem) (sym ends) e.accepted.2) (omega (arith, ends, sooner)) c.whole.ensures

pub returns-else-finish-below-clause-shown : goal.returns-else-finish-below-clause-shown
returns-else-finish-below-clause-shown c =
    let e = c.in-Ok.ensures in
    let stand = c.args.stand.now in
    let later = c.if-finish-below.false in
    shown_plain stand.problem.problem stand.schedule c.args.below c.in-Ok.finish c.args.certificate.now e.optimal.0 e.optimal.1 (omega (arith, later)) e.accepted

pub returns-else-is_header-clause-refused : goal.returns-else-is_header-clause-refused
returns-else-is_header-clause-refused c = is_plain c.in-Err.fault c.in-Err.ensures.fault (sym c.is_header.ensures ∙ c.if-is_header.false) c.of_text.ensures
