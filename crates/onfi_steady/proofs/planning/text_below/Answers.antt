use Rattle.std.proofs.Common.{◌≡◌, ◌∙◌, ◌++◌, ◌∷◌, [], ap}
use Rattle.std.proofs.lemmas.Result.{IfOk-weaker}
use Rattle.onfi_known_check.specs.Text.{header, line}
use Rattle.onfi_plan.specs.Certificate.{ShowsBelow}
use Rattle.onfi_plan.specs.declared.plan.Certificate.TheVariants.{Text}
use Rattle.onfi_steady.proofs.OneToken.{one_token_text}
use Rattle.onfi_steady.proofs.planning.text_below.Goals as goal

pub returns : goal.returns
returns c =
    let x = c.args.problem.now in
    let token = c.token_of.result in
    IfOk-weaker c.text_of.result (λ text. text.items ≡ header c.rules.result.strict ++ line (token ∷ [])) (λ text. ShowsBelow (Text text) x.all x.problem c.args.below)
    (λ text spelled. one_token_text x c.args.below c.args.bound text c.requires.limits c.requires.reaches
    (spelled ∙ (ap (λ rules. header rules.strict ++ line (token ∷ [])) c.rules.ensures ∙ ap (λ t. header x.problem.rules.strict ++ line (t ∷ [])) c.token_of.ensures))) c.text_of.ensures
