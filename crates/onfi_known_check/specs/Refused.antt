-- When tokens are refused.
use Rattle.std.specs.Prelude.{◌≡◌, ℕ, ◌≤◌, ◌<◌, List, [], ◌∷◌, length, map, slice_index}
use Rattle.onfi_request.specs.declared.want.Want.{Want}
use Rattle.onfi_problem.specs.Problem.{Problem}
use Rattle.onfi_problem.specs.Moves.{Move, after}
use Rattle.onfi_problem.specs.Position.{waiting_of}
use Rattle.onfi_demand.specs.Work.{left_of}
use Rattle.onfi_demand.specs.declared.demand.Demand.{Demand as Kept}
use Rattle.onfi_known_check.specs.declared.given.Given.{Given}
use Rattle.onfi_known_check.specs.declared.known.Known.{Known}
use Rattle.onfi_known_check.specs.declared.token.Token.{Token}
use Rattle.onfi_known_check.specs.declared.token.Token.TheVariants.{Yield}
use Rattle.onfi_known_check.specs.declared.token.TheConstants.{MOST_KNOWN}
use Rattle.onfi_known_check.specs.Proves.{Children, MayYield, Proves}

-- two nodes have the same left and ask for the same times
pub record IsAlike (all : List Want) (k l : Known) : Type 0 where
  pub wants : waiting_of k.waiting all ≡ waiting_of l.waiting all
  pub luns : map left_of k.luns.items ≡ map left_of l.luns.items
  pub times : (lun : ℕ) → lun < 8 → slice_index k.times lun ≡ slice_index l.times lun

-- .. one by one
abbrev pub AreAlike : List Want → List Known → List Known → Type 0
AreAlike all [] [] = Unit {0}
AreAlike all [] (l ∷ ls) = ⊥
AreAlike all (k ∷ ks) [] = ⊥
AreAlike all (k ∷ ks) (l ∷ ls) = IsAlike all k l × AreAlike all ks ls

-- the tokens don't begin with an accepted tree, whichever way the same is known
abbrev pub Refuses : ℕ → List Want → Problem → List Known → List Token → Type 0
Refuses e all p known tokens = (others : List Known) (d : Kept) (behind : List Known) (rest : List Token) → AreAlike all known others → Proves e all p others tokens d behind rest → length behind ≤ MOST_KNOWN → ⊥

-- .. with accepted children of all moves of a node
abbrev pub RefusesChildren : ℕ → List Want → Problem → List Move → List Known → List Token → Type 0
RefusesChildren e all p moves known tokens = (others : List Known) (asks : List ℕ) (given : List Given) (behind : List Known) (rest : List Token) → AreAlike all known others → Children e all p moves moves others tokens asks given behind rest → length behind ≤ MOST_KNOWN → ⊥

-- .. with a child of a move, where these yield already
pub record RefusesChild (e : ℕ) (all : List Want) (p : Problem) (moves : List Move) (m : Move) (given : List Given) (known : List Known) (tokens : List Token) : Type 0 where
  pub tree : Refuses e all (after p m) known tokens
  pub yields : (y : Given) (rest : List Token) → tokens ≡ Yield y.lun ∷ rest → MayYield p moves given m y → ⊥
