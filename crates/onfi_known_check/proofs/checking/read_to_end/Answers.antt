use Rattle.std.proofs.Common.{sym, ap, ◌∙◌, subst}
use Rattle.onfi_group.specs.declared.rules.Rules.{Rules}
use Rattle.onfi_known_check.specs.Text.{IsCertificate}
use Rattle.onfi_known_check.proofs.Reading.{ended, missed, other_flag, same_flag}
use Rattle.onfi_known_check.proofs.checking.read_to_end.Goals as goal

pub returns-then-is_err-clause-fault : goal.returns-then-is_err-clause-fault
returns-then-is_err-clause-fault c = λ all s below text whole r.
    missed c.finish.result r c.read_on.ensures.place c.read_on.ensures.behind c.finish.ensures.err (sym c.is_err.ensures.value ∙ c.if-is_err.true)

pub returns-then-strict-rules-clause-fault : goal.returns-then-strict-rules-clause-fault
returns-then-strict-rules-clause-fault c = λ all s below text whole r.
    let no_fault = sym c.is_err.ensures.value ∙ c.if-is_err.false in
    let is = ended c.finish.result r c.read_on.ensures.place c.read_on.ensures.behind c.finish.ensures.ok no_fault c.if-tokens-eq0.false in
    let rules = ap (λ (x : Rules). x.strict) c.rules.ensures in
    (whole.tokens, c.args.strict, is, λ e. other_flag c.args.strict c.rules.result.strict c.if-strict-rules.true (e ∙ sym rules))

pub returns-clause-ok : goal.returns-clause-ok
returns-clause-ok c = λ text whole r.
    let no_fault = sym c.is_err.ensures.value ∙ c.if-is_err.false in
    let is = ended c.finish.result r c.read_on.ensures.place c.read_on.ensures.behind c.finish.ensures.ok no_fault c.if-tokens-eq0.false in
    let same = same_flag c.args.strict c.rules.result.strict c.if-strict-rules.false ∙ ap (λ (x : Rules). x.strict) c.rules.ensures in
    subst (λ b. IsCertificate text b whole.tokens) same is
