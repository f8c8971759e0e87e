-- Lines of a plan text, by their words.
use Rattle.std.proofs.Common.{◌≡◌, ◌<◌, ℕ, Bool, true, false, List, [], ◌∷◌, length, None, refl, arith}
use Rattle.std.specs.Prelude.{not}
use Rattle.onfi_script.specs.PlanLine.{number_in_words}

pub number_in_longer : (name first text : List ℕ) (more : List (List ℕ)) → 0 < length more → number_in_words name (first ∷ text ∷ more) ≡ None
number_in_longer name first text [] h = absurd (omega arith)
number_in_longer name first text (next ∷ more) h = refl

pub not_so : (b : Bool) → not b ≡ true → b ≡ false
not_so true e = cc
not_so false e = refl
