-- Numbers that are compared one after another.
use Rattle.std.specs.Prelude.{◌≡◌, ◌==◌, ◌⊎◌, nat_lt, if◌then◌else◌, ℕ, Bool, true, false, List, [], ◌∷◌}
use Rattle.onfi_problem.specs.Problem.{Problem}
use Rattle.onfi_problem.specs.Moves.{Move, ComesBefore}

-- the first that differs decides
abbrev pub is_less : List ℕ → List ℕ → Bool
is_less [] ys = false
is_less (x ∷ xs) [] = false
is_less (x ∷ xs) (y ∷ ys) = if x == y then is_less xs ys else nat_lt x y

-- m goes before n by their numbers; of equals the one that is listed first
abbrev pub GoesBefore : (Move → List ℕ) → Problem → Move → Move → Type 0
GoesBefore numbers p m n = (is_less (numbers m) (numbers n) ≡ true) ⊎ ((numbers m ≡ numbers n) × ComesBefore p m n)
