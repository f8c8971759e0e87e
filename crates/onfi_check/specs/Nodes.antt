-- The tree of a problem: its nodes are paths of moves, and below a node that a bound closes stands nothing.
use Rattle.std.specs.Prelude.{◌≡◌, ◌≢◌, ◌⊎◌, ℕ, ◌≤◌, ◌<◌, List, [], ◌∷◌, ◌+◌, length, Some}
use Rattle.std.specs.List.{AllByRecursion as Each}
use Rattle.onfi_problem.specs.Moves.{Move, IsMove, after}
use Rattle.onfi_group.specs.Words.{Pairs}
use Rattle.onfi_problem.specs.Problem.{Problem}
use Rattle.onfi_bound.specs.Bounds.{bus, lead, trail, die}
use Rattle.onfi_check.specs.Tree.{Tree, Closed, Opened, Forest, NoMore, Child, Yields, Accepts}
use Rattle.onfi_check.specs.First.{EndsFirstRun}

-- no bound reaches f
pub record IsOpen (f : ℕ) (p : Problem) : Type 0 where
  pub bus : bus p < f
  pub lead : lead p < f
  pub trail : (t : ℕ) → trail p ≡ Some t → t < f
  pub die : (lun : ℕ) → lun < length p.luns → die p lun < f

-- the moves lead to a node: no node on the way is closed
abbrev pub IsNode : ℕ → Problem → List Move → Type 0
IsNode f p [] = Unit {0}
IsNode f p (m ∷ path) = IsOpen f p × IsMove p m × IsNode f (after p m) path

-- the tree has at least n nodes: there are n paths to nodes, no two alike
abbrev pub HasNodes : ℕ → Problem → ℕ → Type 0
HasNodes f p n = (paths : List (List Move)) × (length paths ≡ n) × Each (IsNode f p) paths × Pairs (λ a b. a ≢ b) paths

-- the tree has more than n nodes, where what ends with the first schedule or later is closed
abbrev pub HasMoreNodes : Problem → ℕ → Type 0
HasMoreNodes p n = (f : ℕ) × EndsFirstRun p f × HasNodes f p (n + 1)

-- below one move of the root, which is open, the tree has more than n nodes
abbrev pub PartHasMore : Problem → ℕ → Type 0
PartHasMore p n = (f : ℕ) × EndsFirstRun p f × IsOpen f p × ((m : Move) × IsMove p m × HasNodes f (after p m) (n + 1))

-- a split search with this limit for each part may report n as over: a part has more nodes than the limit, or the parts
-- have n together, which are too many
abbrev pub IsSplitOver : Problem → ℕ → ℕ → Type 0
IsSplitOver p limit n = ((n ≡ limit) × PartHasMore p limit) ⊎ ((1048575 < n) × HasMoreNodes p n)

abbrev mutual
  -- how many nodes a certificate's tree has; a move that yields has none
  pub nodes : Tree → ℕ
  nodes (Closed closing) = 1
  nodes (Opened forest) = 1 + nodes_below forest

  pub nodes_below : Forest → ℕ
  nodes_below NoMore = 0
  nodes_below (Child tree forest) = nodes tree + nodes_below forest
  nodes_below (Yields lun forest) = nodes_below forest

-- a tree of n nodes is accepted for e
abbrev pub HasTreeOf : Problem → ℕ → ℕ → Type 0
HasTreeOf p e n = (tree : Tree) × Accepts tree p e × (nodes tree ≡ n)

-- no tree among the children has more than n nodes
abbrev pub EachWithin : ℕ → Forest → Type 0
EachWithin n NoMore = Unit {0}
EachWithin n (Child tree forest) = (nodes tree ≤ n) × EachWithin n forest
EachWithin n (Yields lun forest) = EachWithin n forest

-- no part of a tree, which is what stands below a move of its root, has more than n nodes
abbrev pub PartsWithin : ℕ → Tree → Type 0
PartsWithin n (Closed closing) = Unit {0}
PartsWithin n (Opened forest) = EachWithin n forest

-- a tree of n nodes is accepted for e, and no part of it has more nodes than the limit
abbrev pub HasPartsWithin : Problem → ℕ → ℕ → ℕ → Type 0
HasPartsWithin p e n limit = (tree : Tree) × Accepts tree p e × (nodes tree ≡ n) × PartsWithin limit tree

-- a search down to the finish e opens n nodes: they are a tree that is accepted for e, and that many the tree of p has
pub record OpensNodes (p : Problem) (e n : ℕ) : Type 0 where
  pub accepted : HasTreeOf p e n
  pub first : ℕ
  pub first_run : EndsFirstRun p first
  pub there : HasNodes first p n
