use Rattle.std.proofs.Common.{◌≡◌, sym, ◌∙◌, true, Some, codes}
use Rattle.std.specs.Str.{bytes_eq}
use Rattle.onfi_script.proofs.PlanLemmas.{finish_told}
use Rattle.onfi_script.proofs.plan_text.opening.Goals as goal

pub returns-in-Some-finish_of : goal.returns-in-Some-finish_of
returns-in-Some-finish_of c =
    let head = c.in-Some.head.now in
    let is : bytes_eq head (codes "ONFIPLAN 1") ≡ true = sym c.is_word.ensures ∙ c.if-not-is_word.false in
    finish_told c.args.text.now head c.in-Some.rest.now c.in-Some-cut.line.now c.in-Some-cut.behind.now (Some c.in-Some-finish_of.finish)
    c.in-Some.ensures.some is c.in-Some-cut.ensures.some c.in-Some-finish_of.ensures
