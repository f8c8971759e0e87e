-- Calls that are dealt to workers in turn.
use Rattle.std.specs.Prelude.{ℕ, zero, suc, ◌<◌, ◌%◌, ◌==◌, if◌then◌else◌, List, [], ◌∷◌, ◌++◌, Result, Ok, Err}
use denote.Param.Members.{Shared}
use Rattle.std.specs.Fn.{FnReturns}
use Rattle.onfi_planner.specs.declared.search.Stop.{Stop}

-- the calls below n that a worker makes, in their order
abbrev pub dealt : ℕ → ℕ → ℕ → List ℕ
dealt workers worker zero = []
dealt workers worker (suc n) = if n % workers == worker then dealt workers worker n ++ n ∷ [] else dealt workers worker n

module _ {F X : Type 0} (g : Shared F (ℕ × Unit {0}) (Result X Stop)) (f : F) where
  -- a call of f may give this answer
  abbrev pub Gives : ℕ → X → Type 0
  Gives call answer = FnReturns g f (call, tt) (Ok answer)

  -- each of these calls of f may give the answer at its place
  abbrev pub GivesAll : List ℕ → List X → Type 0
  GivesAll [] [] = Unit {0}
  GivesAll [] (x ∷ xs) = ⊥
  GivesAll (i ∷ calls) [] = ⊥
  GivesAll (i ∷ calls) (x ∷ xs) = Gives i x × GivesAll calls xs

  -- the calls from i on may give these answers
  abbrev pub GivesFrom : ℕ → List X → Type 0
  GivesFrom i [] = Unit {0}
  GivesFrom i (x ∷ xs) = Gives i x × GivesFrom (suc i) xs

  -- a call below n may refuse so
  pub record MayRefuse (n : ℕ) (stop : Stop) : Type 0 where
    pub call : ℕ
    pub below : call < n
    pub refuses : FnReturns g f (call, tt) (Err stop)
