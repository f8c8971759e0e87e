-- Which bounds reach a number.
use Rattle.std.specs.Prelude.{◌≡◌, ℕ, ◌+◌, ◌<◌, ◌≤◌, length, Some}
use Rattle.onfi_problem.specs.Problem.{Problem}
use Rattle.onfi_bound.specs.declared.bound.Bound.{Bound}
use Rattle.onfi_bound.specs.declared.bound.BoundAt.{BoundAt}
use Rattle.onfi_bound.specs.declared.bound.Bound.TheVariants.{Bus, Lead, Trail, Die}
use Rattle.onfi_bound.specs.Bounds.{bus, lead, trail, die}

-- that bound is at least e: the trail bound where there is one, a die bound of a LUN that is there
abbrev pub Reaches : Problem → ℕ → Bound → Type 0
Reaches p e Bus = e ≤ bus p
Reaches p e Lead = e ≤ lead p
Reaches p e Trail = (t : ℕ) × (trail p ≡ Some t) × (e ≤ t)
Reaches p e (Die lun) = (lun < length p.luns) × (e ≤ die p lun)

-- the order in which bounds are tried
abbrev pub place_of : Bound → ℕ
place_of Bus = 0
place_of Lead = 1
place_of Trail = 2
place_of (Die lun) = 3 + lun

abbrev pub NoneReaches : Problem → ℕ → Type 0
NoneReaches p e = (b : Bound) → Reaches p e b → ⊥

-- the first bound that reaches e
pub record IsFirst (p : Problem) (e : ℕ) (bound : Bound) : Type 0 where
  pub reaches : Reaches p e bound
  pub none_before : (b : Bound) → place_of b < place_of bound → Reaches p e b → ⊥

-- the bound comes to that
abbrev pub ComesTo : Problem → ℕ → Bound → Type 0
ComesTo p at Bus = at ≡ bus p
ComesTo p at Lead = at ≡ lead p
ComesTo p at Trail = trail p ≡ Some at
ComesTo p at (Die lun) = at ≡ die p lun

-- the first bound that reaches e, with what it comes to
pub record IsFirstAt (p : Problem) (e : ℕ) (first : BoundAt) : Type 0 where
  pub is_first : IsFirst p e first.bound
  pub comes_to : ComesTo p first.at first.bound

-- the first LUN whose die bound reaches e
pub record IsFirstDie (p : Problem) (e lun : ℕ) : Type 0 where
  pub there : lun < length p.luns
  pub reaches : e ≤ die p lun
  pub none_before : (l : ℕ) → l < lun → die p l < e

-- .. with what that comes to
pub record IsFirstDieAt (p : Problem) (e : ℕ) (first : BoundAt) : Type 0 where
  pub lun : ℕ
  pub bound : first.bound ≡ Die lun
  pub is_first : IsFirstDie p e lun
  pub at : first.at ≡ die p lun
