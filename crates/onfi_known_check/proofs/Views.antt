-- How an accepted tree begins, and with it its children.
use Rattle.std.proofs.Common.{◌≡◌, ℕ, ◌≤◌, List, [], ◌∷◌, ◌++◌, length, refl}
use Rattle.std.specs.Prelude.{slice_index}
use Rattle.onfi_request.specs.declared.want.Want.{Want}
use Rattle.onfi_problem.specs.Problem.{Problem}
use Rattle.onfi_problem.specs.Moves.{Move, AreMoves, after}
use Rattle.onfi_demand.specs.Asked.{AreRaised}
use Rattle.onfi_demand.specs.Demand.{of_luns}
use Rattle.onfi_demand.specs.Kept.{IsKept}
use Rattle.onfi_demand.specs.declared.demand.Demand.{Demand as Kept}
use Rattle.onfi_known_check.specs.declared.given.Given.{Given}
use Rattle.onfi_known_check.specs.declared.known.Known.{Known}
use Rattle.onfi_known_check.specs.declared.token.Token.{Token}
use Rattle.onfi_known_check.specs.declared.token.Token.TheVariants.{Branch, Yield, Again}
use Rattle.onfi_known_check.specs.Closing.{Closes, closing_demand}
use Rattle.onfi_known_check.specs.Proves.{Children, Describes, FitTimes, IsAgain, MayYield, Proves, times_of, with_yields, closed, again, opened, none, tree, yielded}

-- an open node
pub record Opening (e : ℕ) (all : List Want) (p : Problem) (known : List Known) (tokens : List Token) (d : Kept) (behind : List Known) (rest : List Token) : Type 0 where
  pub width : ℕ
  pub left : List Token
  pub moves : List Move
  pub asks : List ℕ
  pub given : List Given
  pub node : Known
  pub middle : List Known
  pub tokens_are : tokens ≡ Branch width ∷ left
  pub are : AreMoves p moves
  pub some : 1 ≤ length moves
  pub wide : width ≡ length moves
  pub children : Children e all p moves moves known left asks given middle rest
  pub fit : FitTimes asks given
  pub describes : Describes all node p
  pub needs : IsKept d (of_luns (with_yields asks given))
  pub same : IsKept d (times_of node)
  pub grown : behind ≡ middle ++ node ∷ []

pub data Begin (e : ℕ) (all : List Want) (p : Problem) (known : List Known) (tokens : List Token) (d : Kept) (behind : List Known) (rest : List Token) : Type 0 where
  by_closing : (token : Token) → tokens ≡ token ∷ rest → Closes p e token → IsKept d (closing_demand p e token) → behind ≡ known → Begin e all p known tokens d behind rest
  by_again : (number : ℕ) → tokens ≡ Again number ∷ rest → IsAgain all p known number d → behind ≡ known → Begin e all p known tokens d behind rest
  by_opening : Opening e all p known tokens d behind rest → Begin e all p known tokens d behind rest

pub begin_of : (e : ℕ) (all : List Want) (p : Problem) (known : List Known) (tokens : List Token) (d : Kept) (behind : List Known) (rest : List Token) → Proves e all p known tokens d behind rest → Begin e all p known tokens d behind rest
begin_of e all _ _ _ _ _ _ (closed p known token d rest c is) = by_closing token refl c is refl
begin_of e all _ _ _ _ _ _ (again p known number d rest is) = by_again number refl is refl
begin_of e all _ _ _ _ _ _ (opened p known width more moves asks given k d middle rest are some wide children fit is needs same) = by_opening (record {
  width = width;
  left = more;
  moves = moves;
  asks = asks;
  given = given;
  node = k;
  middle = middle;
  tokens_are = refl;
  are = are;
  some = some;
  wide = wide;
  children = children;
  fit = fit;
  describes = is;
  needs = needs;
  same = same;
  grown = refl;
})

-- the last child is a tree
pub record LastTree (e : ℕ) (all : List Want) (p : Problem) (moves ms : List Move) (known : List Known) (tokens : List Token) (asks : List ℕ) (given : List Given) (behind : List Known) (rest : List Token) : Type 0 where
  pub firsts : List Move
  pub move : Move
  pub before : List ℕ
  pub middle : List Known
  pub left : List Token
  pub demand : Kept
  pub is : ms ≡ firsts ++ move ∷ []
  pub children : Children e all p moves firsts known tokens before given middle left
  pub proves : Proves e all (after p move) middle left demand behind rest
  pub raised : AreRaised p move demand before asks

-- .. or yields
pub record LastYield (e : ℕ) (all : List Want) (p : Problem) (moves ms : List Move) (known : List Known) (tokens : List Token) (asks : List ℕ) (given : List Given) (behind : List Known) (rest : List Token) : Type 0 where
  pub firsts : List Move
  pub move : Move
  pub before : List Given
  pub yield : Given
  pub is : ms ≡ firsts ++ move ∷ []
  pub children : Children e all p moves firsts known tokens asks before behind (Yield yield.lun ∷ rest)
  pub may : MayYield p moves before move yield
  pub grown : given ≡ before ++ yield ∷ []

pub data Last (e : ℕ) (all : List Want) (p : Problem) (moves ms : List Move) (known : List Known) (tokens : List Token) (asks : List ℕ) (given : List Given) (behind : List Known) (rest : List Token) : Type 0 where
  no_child : ms ≡ [] → ((lun : ℕ) → slice_index asks lun ≡ 0) → given ≡ [] → behind ≡ known → rest ≡ tokens → Last e all p moves ms known tokens asks given behind rest
  last_tree : LastTree e all p moves ms known tokens asks given behind rest → Last e all p moves ms known tokens asks given behind rest
  last_yield : LastYield e all p moves ms known tokens asks given behind rest → Last e all p moves ms known tokens asks given behind rest

pub last_of : (e : ℕ) (all : List Want) (p : Problem) (moves ms : List Move) (known : List Known) (tokens : List Token) (asks : List ℕ) (given : List Given) (behind : List Known) (rest : List Token) → Children e all p moves ms known tokens asks given behind rest → Last e all p moves ms known tokens asks given behind rest
last_of e all _ _ _ _ _ _ _ _ _ (none p moves known tokens asks zeros) = no_child refl zeros refl refl refl
last_of e all _ _ _ _ _ _ _ _ _ (tree p moves firsts ms m known tokens before asks given middle left d behind rest is firsts_are child raised) = last_tree (record { firsts = firsts; move = m; before = before; middle = middle; left = left; demand = d; is = is; children = firsts_are; proves = child; raised = raised })
last_of e all _ _ _ _ _ _ _ _ _ (yielded p moves firsts ms m known tokens asks before y behind rest is firsts_are may) = last_yield (record { firsts = firsts; move = m; before = before; yield = y; is = is; children = firsts_are; may = may; grown = refl })
