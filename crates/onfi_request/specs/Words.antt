-- Words on lists that the definitions share.
use Rattle.std.specs.Prelude.{List, [], ◌∷◌}
use Rattle.std.specs.List.{AllByRecursion as Each}

-- each is so related to each later one
abbrev pub Pairs : {A : Type 0} → (A → A → Type 0) → List A → Type 0
Pairs R [] = Unit {0}
Pairs R (x ∷ xs) = Each (R x) xs × Pairs R xs
