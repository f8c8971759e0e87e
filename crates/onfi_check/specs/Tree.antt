-- Certificates: trees of moves, closed by bounds.
use Rattle.std.specs.Prelude.{◌≡◌, ◌≢◌, ℕ, ◌+◌, ◌<◌, ◌≤◌, List, [], ◌∷◌, ◌++◌, length, Some}
use Rattle.std.specs.List.{AllByRecursion as Each}
use Rattle.onfi_group.specs.Words.{Has}
use Rattle.onfi_problem.specs.Problem.{Problem}
use Rattle.onfi_problem.specs.Moves.{Move, IsDone, earliest, move_lun, after, AreMoves}
use Rattle.onfi_bound.specs.Bounds.{bus, lead, trail, die}
use Rattle.onfi_cert.specs.declared.token.Token.{Token}
use Rattle.onfi_cert.specs.declared.token.Token.TheVariants.{Branch, Bus, Lead, Trail, Die, Yield, End}

-- what closes a node
pub data Closing : Type 0 where
  AtEnd : Closing
  ByBus : Closing
  ByLead : Closing
  ByTrail : Closing
  ByDie : ℕ → Closing

abbrev pub token_of : Closing → Token
token_of AtEnd = End
token_of ByBus = Bus
token_of ByLead = Lead
token_of ByTrail = Trail
token_of (ByDie lun) = Die lun

mutual
  -- a closed node, or one with a child for each move
  pub data Tree : Type 0 where
    Closed : Closing → Tree
    Opened : Forest → Tree

  -- children in order: a tree, or the number of the LUN that the move yields to
  pub data Forest : Type 0 where
    NoMore : Forest
    Child : Tree → Forest → Forest
    Yields : ℕ → Forest → Forest

abbrev pub width : Forest → ℕ
width NoMore = 0
width (Child tree forest) = 1 + width forest
width (Yields lun forest) = 1 + width forest

abbrev mutual
  pub preorder : Tree → List Token
  preorder (Closed closing) = token_of closing ∷ []
  preorder (Opened forest) = Branch (width forest) ∷ preorders forest

  pub preorders : Forest → List Token
  preorders NoMore = []
  preorders (Child tree forest) = preorder tree ++ preorders forest
  preorders (Yields lun forest) = Yield lun ∷ preorders forest

-- no move of the LUN has a child that yields
abbrev pub NoneYields : ℕ → List Move → Forest → Type 0
NoneYields lun [] forest = Unit {0}
NoneYields lun (m ∷ moves) NoMore = Unit {0}
NoneYields lun (m ∷ moves) (Child tree forest) = NoneYields lun moves forest
NoneYields lun (m ∷ moves) (Yields to forest) = (move_lun m ≢ lun) × NoneYields lun moves forest

-- the move m may yield to the LUN
pub record MayYield (p : Problem) (moves : List Move) (forest : Forest) (m : Move) (lun : ℕ) : Type 0 where
  pub other : lun ≢ move_lun m
  pub move : Move
  pub has_move : Has moves move
  pub of_lun : move_lun move ≡ lun
  pub fits : Each (λ n. move_lun n ≡ lun → (after p n).bus_free ≤ earliest p m) moves
  pub none_back : NoneYields lun moves forest

-- a closing holds where its bound reaches e
abbrev pub Closes : Problem → ℕ → Closing → Type 0
Closes p e AtEnd = IsDone p × (e ≤ p.bus_free)
Closes p e ByBus = e ≤ bus p
Closes p e ByLead = e ≤ lead p
Closes p e ByTrail = (t : ℕ) × (trail p ≡ Some t) × (e ≤ t)
Closes p e (ByDie lun) = (lun < length p.luns) × (e ≤ die p lun)

abbrev mutual
  -- a tree is accepted for a problem and e
  pub Accepts : Tree → Problem → ℕ → Type 0
  Accepts (Closed closing) p e = Closes p e closing
  Accepts (Opened forest) p e = (moves : List Move) × AreMoves p moves × (1 ≤ length moves) × AcceptsEach forest p e moves forest moves

  -- a child for each move
  pub AcceptsEach : Forest → Problem → ℕ → List Move → Forest → List Move → Type 0
  AcceptsEach NoMore p e moves all all_moves = moves ≡ []
  AcceptsEach (Child tree forest) p e [] all all_moves = ⊥
  AcceptsEach (Child tree forest) p e (m ∷ moves) all all_moves = Accepts tree (after p m) e × AcceptsEach forest p e moves all all_moves
  AcceptsEach (Yields lun forest) p e [] all all_moves = ⊥
  AcceptsEach (Yields lun forest) p e (m ∷ moves) all all_moves = MayYield p all_moves all m lun × AcceptsEach forest p e moves all all_moves

-- the tokens are those of one accepted tree, with nothing after them
abbrev pub AcceptsTokens : List Token → Problem → ℕ → Type 0
AcceptsTokens tokens p e = (tree : Tree) × (preorder tree ≡ tokens) × Accepts tree p e
