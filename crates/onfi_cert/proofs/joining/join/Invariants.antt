use Rattle.std.proofs.Common.{◌≡◌, ◌∷◌, take}
use Rattle.std.specs.List.{flat_map}
use Rattle.onfi_cert.specs.declared.token.Token.TheVariants as tk
use Rattle.onfi_cert.proofs.joining.join.Given as goal

abbrev pub invariant-loop-part : goal.invariant-loop-part
invariant-loop-part l = l.tokens.items ≡ tk.Branch l.fn.n ∷ flat_map (λ part. part.items) (take l.part-index l.parts)
