-- The greatest of a problem's bounds.
use Rattle.std.specs.Prelude.{ℕ, ◌+◌, ◌<◌, nat_lt, if◌then◌else◌}
use Rattle.onfi_known_check.specs.declared.token.Token.{Token}
use Rattle.onfi_known_check.specs.declared.token.Token.TheVariants as token
use Rattle.onfi_problem.specs.Problem.{Problem}
use Rattle.onfi_bound.specs.declared.bound.Bound.{Bound}
use Rattle.onfi_bound.specs.declared.bound.Bound.TheVariants.{Bus, Lead, Trail, Die}
use Rattle.onfi_bound.specs.declared.bound.BoundAt.{BoundAt}
use Rattle.onfi_bound.specs.Reaching.{Reaches, IsFirstAt, NoneReaches, place_of}

-- the first bound that comes to what none is above
pub record IsGreatest (p : Problem) (greatest : BoundAt) : Type 0 where
  pub is_first : IsFirstAt p greatest.at greatest
  pub most : NoneReaches p (greatest.at + 1)

-- .. of those that are tried before that place
pub record IsGreatestBefore (p : Problem) (place : ℕ) (greatest : BoundAt) : Type 0 where
  pub is_first : IsFirstAt p greatest.at greatest
  pub most : (b : Bound) → place_of b < place → Reaches p (greatest.at + 1) b → ⊥

-- a bound, with what it comes to, where that is more than the greatest before it
abbrev pub greater : BoundAt → Bound → ℕ → BoundAt
greater greatest bound at = if nat_lt greatest.at at then record { bound = bound; at = at } else greatest

-- the token of a leaf that the bound closes, in a certificate that remembers states
abbrev pub token_by : Bound → Token
token_by Bus = token.Bus
token_by Lead = token.Lead
token_by Trail = token.Trail
token_by (Die lun) = token.Die lun

-- the bound of a LUN is that of one of at most eight
abbrev pub IsOfLun : Bound → Type 0
IsOfLun (Die lun) = lun < 8
IsOfLun other = Unit {0}
