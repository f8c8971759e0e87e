use Rattle.std.proofs.Common.{◌∷◌, [], ◌++◌, ap, arith, ◌∙◌}
use Rattle.std.specs.List.{flat_map}
use Rattle.std.proofs.lemmas.List.{take_all}
use Rattle.std.proofs.lemmas.Grind.{common_steps}
use Rattle.onfi_cert.specs.declared.token.Token.TheVariants as tk
use Rattle.onfi_cert.proofs.joining.join.Goals as goal

pub loop-part-init : goal.loop-part-init
loop-part-init c = c.in_ok-push.ensures.items ∙ ap (λ z. z ++ tk.Branch c.args.n ∷ []) c.new-tokens.ensures.items

pub loop-part-preserved : goal.loop-part-preserved
loop-part-preserved c = grind (arith, common_steps)

pub returns : goal.returns
returns c = c.loop-part.invariant ∙ ap (λ z. tk.Branch c.args.n ∷ flat_map (λ part. part.items) z) (take_all c.loop-part.part-index c.args.parts.now c.loop-part-test.false)
