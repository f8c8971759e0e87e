use Rattle.std.proofs.Common.{◌∷◌, ◌+◌, sym, ap, ◌∙◌, take}
use Rattle.std.proofs.lemmas.List.{take_rest}
use Rattle.onfi_log.specs.Parts.{parts}
use Rattle.onfi_log.proofs.PartsLemmas.{parts_at, parts_none}
use Rattle.onfi_log.proofs.parts.cut.Goals as goal

pub returns-in_err-at-clause-none : goal.returns-in_err-at-clause-none
returns-in_err-at-clause-none c = rw c.from_residual.ensures (parts_none c.args.byte c.args.text.now (sym c.place.ensures ∙ c.in_err-at.was))

pub returns-clause-some : goal.returns-clause-some
returns-clause-some c =
    let text = c.args.text.now in
    let at = c.in_ok-at.at in
    parts_at c.args.byte text at (sym c.place.ensures ∙ c.in_ok-at.was)
    ∙ ap (λ l. take at text ∷ parts c.args.byte l) (sym (take_rest text (at + 1)))
