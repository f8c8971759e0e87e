-- Trees that lists of tokens begin with.
use Rattle.std.specs.Prelude.{◌≡◌, ◌≢◌, ℕ, ◌+◌, ◌≤◌, ◌↔◌, Bool, true, false, slice_index_or, slice_set, List, [], ◌∷◌, ◌++◌, length}
use Rattle.std.specs.List.{AllByRecursion as Each}
use Rattle.onfi_problem.specs.Moves.{Move, move_lun, after, may_go}
use Rattle.onfi_cert.specs.declared.token.Token.{Token}
use Rattle.onfi_group.specs.Words.{Has}
use Rattle.onfi_problem.specs.Problem.{Problem}
use Rattle.onfi_check.specs.declared.yields.Standing.{Standing}
use Rattle.onfi_check.specs.Tree.{Tree, Forest, NoMore, Child, Yields, preorder, preorders, Accepts, AcceptsEach}

-- the tokens are those of an accepted tree, and `rest` after them
abbrev pub Begins : Problem → ℕ → List Token → List Token → Type 0
Begins p e tokens rest = (tree : Tree) × (tokens ≡ preorder tree ++ rest) × Accepts tree p e

-- .. those of accepted children of a node
abbrev pub BeginsEach : Problem → ℕ → List Move → List Token → List Token → Type 0
BeginsEach p e moves tokens rest = (forest : Forest) × (tokens ≡ preorders forest ++ rest) × AcceptsEach forest p e moves forest moves

-- these tokens but those left were read: the first had one place, the first left has the next
pub record ReadOn {T : Type 0} (first next : ℕ) (tokens left : List T) : Type 0 where
  pub taken : List T
  pub tokens_are : tokens ≡ taken ++ left
  pub next_is : next ≡ first + length taken

-- LUN l has a move, and each of its moves ends by the earliest start of those of LUN j
abbrev pub Fits : Problem → List Move → ℕ → ℕ → Type 0
Fits p moves j l = ((m : Move) × Has moves m × (move_lun m ≡ l)) × Each (λ n. move_lun n ≡ l → (after p n).bus_free ≤ may_go p j) moves

abbrev pub marked : List Bool → ℕ → Bool
marked xs i = slice_index_or xs i false

-- a child of LUN j may yield to LUN l, where some LUNs were yielded to and some have children that yield
pub record IsYield (p : Problem) (moves : List Move) (awaited leaving : List Bool) (j l : ℕ) : Type 0 where
  pub fits : Fits p moves j l
  pub other : l ≢ j
  pub unasked : marked awaited j ≡ false
  pub stays : marked leaving l ≡ false

-- accepted children of these moves, where some LUNs were yielded to and some have children that yield
abbrev pub Rest : Forest → Problem → ℕ → List Move → List Move → List Bool → List Bool → Type 0
Rest NoMore p e ms all ys ls = ms ≡ []
Rest (Child t f) p e [] all ys ls = ⊥
Rest (Child t f) p e (m ∷ ms) all ys ls = Accepts t (after p m) e × Rest f p e ms all ys ls
Rest (Yields l f) p e [] all ys ls = ⊥
Rest (Yields l f) p e (m ∷ ms) all ys ls = IsYield p all ys ls (move_lun m) l × Rest f p e ms all (slice_set ys l true) (slice_set ls (move_lun m) true)

-- the tokens are those of such children, and `rest` after them
abbrev pub BeginsRest : Problem → ℕ → List Move → List Move → List Bool → List Bool → List Token → List Token → Type 0
BeginsRest p e ms all ys ls tokens rest = (f : Forest) × (tokens ≡ preorders f ++ rest) × Rest f p e ms all ys ls

-- what is left after the child of a node's move is accepted exactly where what stood before it is
abbrev pub ReadsChild : Problem → ℕ → List Move → Move → Standing → Standing → List Token → List Token → Type 0
ReadsChild p e moves m before behind tokens left = (later : List Move) (rest : List Token) → BeginsRest p e later moves behind.awaited behind.leaving left rest ↔ BeginsRest p e (m ∷ later) moves before.awaited before.leaving tokens rest

-- no accepted child of the node's move stands there
abbrev pub RefusesChild : Problem → ℕ → List Move → Move → Standing → List Token → Type 0
RefusesChild p e moves m standing tokens = (later : List Move) (rest : List Token) → BeginsRest p e (m ∷ later) moves standing.awaited standing.leaving tokens rest → ⊥
