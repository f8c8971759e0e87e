-- Lists with an element for each of the four hosts, in the order of their numbers.
use Rattle.std.specs.Prelude.{ℕ, List, [], ◌∷◌, ◌++◌}

abbrev pub host_numbers : List ℕ
host_numbers = 0 ∷ 1 ∷ 2 ∷ 3 ∷ []

-- each list with one element more after it
abbrev pub with_each : {X : Type 0} → List (List X) → List X → List (List X)
with_each [] more = []
with_each (xs ∷ lists) [] = []
with_each (xs ∷ lists) (x ∷ more) = (xs ++ x ∷ []) ∷ with_each lists more
