-- What the search and the writing of certificates promise.
use Rattle.std.specs.Prelude.{◌≡◌, ℕ, ◌+◌, ◌-◌, ◌^◌, ◌≤◌, ◌<◌, Bool, true, false, List, ◌++◌, map, reverse, slice_index}
use Rattle.onfi_request.specs.declared.want.Want.{Want}
use Rattle.onfi_cert.specs.declared.token.Token.{Token}
use Rattle.onfi_problem.specs.Problem.{Problem}
use Rattle.onfi_problem.specs.Left.{InLimits}
pub use Rattle.onfi_problem.specs.Left.{work}
use Rattle.onfi_group.specs.Words.{Pairs}
use Rattle.onfi_schedule.specs.Schedule.{Placed}
use Rattle.onfi_schedule.specs.Runs.{Step as Taken, Run}
use Rattle.onfi_check.specs.Tree.{Tree, preorder, Accepts}
use Rattle.onfi_planner.specs.declared.search.Begun.{Begun}
use Rattle.onfi_planner.specs.declared.search.Best.{Best}
use Rattle.onfi_planner.specs.declared.root.Root.{Root}
use Rattle.onfi_problem.specs.Position.{Position, move_of}
use Rattle.onfi_bound.specs.Loads.{AreLoads}
use Rattle.onfi_check.specs.First.{IsFirstRun}
use Rattle.onfi_check.specs.Nodes.{HasNodes, HasPartsWithin, HasTreeOf, OpensNodes}

-- no run ends before e
abbrev pub Bounded : Problem → ℕ → Type 0
Bounded p e = (steps : List Taken) (f : ℕ) → Run p steps f → e ≤ f

abbrev pub taken : List (List Want) → Begun → Taken
taken groups b = record { move = move_of groups b.step; start = b.start }

-- steps are kept last first
abbrev pub run_of : List (List Want) → List Begun → List Taken
run_of groups steps = reverse (map (taken groups) steps)

-- x is to be searched, with its first schedule as the best
pub record IsRoot (x : Position) (root : Root) : Type 0 where
  pub same : root.problem ≡ x
  pub loads : AreLoads root.problem root.loads.of.items
  pub limits : InLimits x.problem
  pub first_run : IsFirstRun x.problem (run_of x.groups root.best.steps.items) root.best.finish
  pub small : root.best.finish < 2 ^ 62

-- no run of x ends before the best
pub record Found (x : Position) (best : Best) : Type 0 where
  pub run : Run x.problem (run_of x.groups best.steps.items) best.finish
  pub least : Bounded x.problem best.finish
  pub small : best.finish < 2 ^ 63

-- what a search of x from one best to another has found
pub record Searched (x : Position) (old new : Best) (improved : Bool) : Type 0 where
  pub sooner : new.finish ≤ old.finish
  pub least : Bounded x.problem new.finish
  pub run : improved ≡ true → Run x.problem (run_of x.groups new.steps.items) new.finish
  pub kept : improved ≡ false → new ≡ old

-- from one best finish to another that many nodes were opened: each is one of the tree, and they show the new finish
pub record HasOpened (p : Problem) (finish found old new : ℕ) : Type 0 where
  pub more : old ≤ new
  pub nodes : (f : ℕ) → finish ≤ f → HasNodes f p (new - old)
  pub accepted : HasTreeOf p found (new - old)

-- a search down to the finish e opens some number of nodes, at most as many as the limit
pub record OpensWithin (p : Problem) (e limit : ℕ) : Type 0 where
  pub opened : ℕ
  pub opens : OpensNodes p e opened
  pub some : 1 ≤ opened
  pub within : opened ≤ limit

-- a split search down to the finish e opens some number of nodes, and below no move of the root more than the limit
pub record OpensPartsWithin (p : Problem) (e limit : ℕ) : Type 0 where
  pub opened : ℕ
  pub opens : OpensNodes p e opened
  pub parts : HasPartsWithin p e opened limit
  pub some : 1 ≤ opened
  pub within : opened ≤ 1048576

-- the limit is met, and the tree has one more node
pub record IsOver (p : Problem) (finish old new greatest : ℕ) : Type 0 where
  pub limit : new ≡ greatest
  pub nodes : (f : ℕ) → finish ≤ f → HasNodes f p (greatest - old + 1)

-- the new tokens are those of a tree that is accepted for e
abbrev pub Written : Problem → ℕ → List Token → List Token → Type 0
Written p e old new = (tree : Tree) × (new ≡ old ++ preorder tree) × Accepts tree p e

-- when a group's first phase starts
abbrev pub first_start : Placed → ℕ
first_start g = slice_index g.starts 0

-- groups by rising first start
abbrev pub AreRising : List Placed → Type 0
AreRising groups = Pairs (λ a b. first_start a < first_start b) groups
