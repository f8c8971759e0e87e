-- What a walk over the tree of a problem stands on and shows.
use Rattle.std.specs.Prelude.{◌≡◌, ◌≢◌, ℕ, ◌+◌, ◌-◌, ◌^◌, ◌≤◌, ◌<◌, ◌==◌, Bool, true, false, if◌then◌else◌, max, List, [], ◌∷◌, ◌++◌, Some, length, slice_index, slice_index_or}
use Rattle.std.specs.List.{AllByRecursion as Each}
use Rattle.onfi_group.specs.Words.{Pairs}
use Rattle.onfi_problem.specs.Problem.{Problem}
use Rattle.onfi_problem.specs.Moves.{Move, may_go}
use Rattle.onfi_problem.specs.Left.{InLimits}
use Rattle.onfi_problem.specs.Position.{Position, move_of, moved}
use Rattle.onfi_problem.specs.declared.moves.Move.{Move as KeptMove}
use Rattle.onfi_schedule.specs.Runs.{Run}
use Rattle.onfi_bound.specs.Loads.{AreLoads}
use Rattle.onfi_bound.specs.declared.loads.Loads.{Loads}
use Rattle.onfi_check.specs.Ends.{IsLastEnd}
use Rattle.onfi_demand.specs.Asked.{AreRaised}
use Rattle.onfi_demand.specs.Left.{has_left}
use Rattle.onfi_demand.specs.Demand.{Meets}
use Rattle.onfi_demand.specs.Kept.{demand_of, IsKept}
use Rattle.onfi_demand.specs.declared.demand.Demand.{Demand as Kept}
use Rattle.onfi_known_check.specs.Closing.{Closes, closing_demand}
use Rattle.onfi_known_check.specs.Proves.{Proves, ProvesTokens, Children}
use Rattle.onfi_known_check.specs.Text.{InRange}
use Rattle.onfi_known_check.specs.declared.given.Given.{Given}
use Rattle.onfi_known_check.specs.declared.known.Known.{Known}
use Rattle.onfi_known_check.specs.declared.token.Token.{Token}
use Rattle.onfi_known_check.specs.declared.token.Token.TheVariants.{Branch}
use Rattle.onfi_known_check.specs.declared.token.TheConstants.{MOST_KNOWN}
use Rattle.onfi_check.specs.First.{EndsFirstRun}
use Rattle.onfi_check.specs.Nodes.{IsOpen, HasNodes}
use Rattle.onfi_planner.specs.Planning.{run_of}
use Rattle.onfi_planner.specs.declared.root.Root.{Root}
use Rattle.onfi_planner.specs.declared.search.Best.{Best}
use Rattle.onfi_planner.proofs.Paths.{Among}
use Rattle.onfi_known_plan.specs.ByRule.{EndsByRule}
use Rattle.onfi_known_plan.specs.Text.{nodes_at, nodes_in}
use Rattle.onfi_known_plan.specs.declared.closing.Closing.{Closing}
use Rattle.onfi_known_plan.specs.declared.notes.Notes.{Notes}
use Rattle.onfi_known_plan.specs.declared.search.Shown.{Shown}
use Rattle.onfi_known_plan.specs.declared.standing.Standing.{Standing}
use Rattle.onfi_known_plan.specs.declared.yields.Soonest.{Soonest}

-- the tree has n nodes, wherever a bound closes that reaches the finish or more
abbrev pub AreMore : Problem → ℕ → ℕ → Type 0
AreMore p finish n = (f : ℕ) → finish ≤ f → HasNodes f p n

-- the tree has n nodes at least, where what ends with the first schedule or later is closed
abbrev pub HasSoMany : Problem → ℕ → Type 0
HasSoMany p n = (f : ℕ) × EndsFirstRun p f × HasNodes f p n

-- the steps are a run that ends then
abbrev pub IsRunOf : Position → Best → Type 0
IsRunOf x best = Run x.problem (run_of x.groups best.steps.items) best.finish

-- the best is no later, and still a run; where it is sooner, it is one
pub record IsBetter (x : Position) (old new : Best) : Type 0 where
  pub sooner : new.finish ≤ old.finish
  pub run : IsRunOf x old → IsRunOf x new
  pub found : new.finish < old.finish → IsRunOf x new

-- what a walk begins with
pub record IsTree (x : Position) (loads : Loads) : Type 0 where
  pub limits : InLimits x.problem
  pub are_loads : AreLoads x loads.of.items
  pub rising : Pairs (λ a b. a.id < b.id) x.all

-- x is to be walked over, and the best ends no later than its first schedule, nor than that of the rule
pub record IsBegun (x : Position) (root : Root) : Type 0 where
  pub same : root.problem ≡ x
  pub tree : IsTree x root.loads
  pub run : IsRunOf x root.best
  pub small : root.best.finish < 2 ^ 62
  pub first : ℕ
  pub ends : EndsFirstRun x.problem first
  pub sooner : root.best.finish ≤ first
  pub by_rule : EndsByRule x.problem root.best.finish

-- the tokens are accepted for e, and each is spelled
pub record IsProved (x : Position) (tokens : List Token) (e : ℕ) : Type 0 where
  pub proves : ProvesTokens x.all tokens x.problem e
  pub in_range : Each InRange tokens

-- a walk stands at the node x
pub record IsAt (x : Position) (loads : Loads) (best : Best) (notes : Notes) : Type 0 where
  pub tree : IsTree x loads
  pub finish : best.finish ≤ notes.cert.finish
  pub within : notes.opened ≤ notes.limit
  pub most : notes.limit ≤ MOST_KNOWN
  pub few : length notes.records.nodes.items ≤ notes.opened
  pub full : notes.cut ≡ true → notes.opened ≡ notes.limit

-- the token closes the node by a bound
pub record ClosesBy (p : Problem) (e : ℕ) (c : Closing) : Type 0 where
  pub closes : Closes p e c.token
  pub asks : IsKept c.demand (closing_demand p e c.token)
  pub in_range : InRange c.token

-- the token is the accepted tree of the node, which meets what that asks for
pub record IsClosing (e : ℕ) (x : Position) (known : List Known) (c : Closing) : Type 0 where
  pub in_range : InRange c.token
  pub node : nodes_at c.token ≡ 1
  pub met : Meets x.problem (demand_of c.demand)
  pub proves : (rest : List Token) → Proves e x.all x.problem known (c.token ∷ rest) c.demand known rest

-- that many nodes were opened and remembered since; a walk that is cut has met one more than it may open, and is cut for good
pub record HasOpened (p : Problem) (finish began : ℕ) (before behind : Notes) : Type 0 where
  pub more : began ≤ behind.opened
  pub some : behind.cut ≡ false → began < behind.opened
  pub within : behind.opened ≤ behind.limit
  pub nodes : AreMore p finish (behind.opened - began)
  pub few : length behind.records.nodes.items + began ≤ length before.records.nodes.items + behind.opened
  pub same_finish : behind.cert.finish ≡ before.cert.finish
  pub same_limit : behind.limit ≡ before.limit
  pub stays : behind.cut ≡ false → before.cut ≡ false
  pub full : behind.cut ≡ true → behind.opened ≡ behind.limit
  pub over : behind.cut ≡ true → AreMore p finish (behind.limit - began + 1)

-- the tokens of the node's accepted tree for e were written, one for each node opened, and its open nodes remembered
pub record HasWritten (e : ℕ) (x : Position) (began : ℕ) (before behind : Notes) (d : Kept) : Type 0 where
  pub tree : List Token
  pub nodes : nodes_in tree + began ≡ behind.opened
  pub tokens : behind.cert.tokens.items ≡ before.cert.tokens.items ++ tree
  pub in_range : Each InRange tree
  pub proves : (rest : List Token) → Proves e x.all x.problem before.records.nodes.items (tree ++ rest) d behind.records.nodes.items rest

-- what ends sooner was found, or the best is as it was
pub record IsFound (x : Position) (old new : Best) (improved : Bool) : Type 0 where
  pub sooner : new.finish ≤ old.finish
  pub run : improved ≡ true → IsRunOf x new
  pub kept : improved ≡ false → new ≡ old

-- what was shown of the node x, which the walk began with that many nodes opened
pub record IsShown (x : Position) (old new : Best) (began : ℕ) (before behind : Notes) (shown : Shown) : Type 0 where
  pub found : IsFound x old new shown.improved
  pub met : Meets x.problem (demand_of shown.demand)
  pub opened : HasOpened x.problem old.finish began before behind
  pub written : behind.cut ≡ false → new.finish ≡ before.cert.finish → HasWritten before.cert.finish x began before behind shown.demand

-- what was shown of the node after a step, and what is asked before it
pub record Visited (x : Position) (step : KeptMove) (old new : Best) (before behind : Notes) (asked raised : List ℕ) (improved : Bool) : Type 0 where
  pub found : IsFound x old new improved
  pub demand : Kept
  pub met : Meets (moved x step).problem (demand_of demand)
  pub raises : AreRaised x.problem (move_of x.groups step) demand asked raised
  pub opened : HasOpened (moved x step).problem old.finish before.opened before behind
  pub written : behind.cut ≡ false → new.finish ≡ before.cert.finish → HasWritten before.cert.finish (moved x step) before.opened before behind demand

-- the moves of a LUN may yield to the soonest
pub record Awaits (p : Problem) (soonest : Soonest) (own : ℕ) : Type 0 where
  pub other : soonest.lun ≢ own
  pub early : soonest.end < 2 ^ 62
  pub fits : soonest.end ≤ may_go p own

-- when the moves that yield may go, by what is asked of the soonest
abbrev pub wait_for : Problem → Soonest → List ℕ → ℕ
wait_for p soonest asked = slice_index asked soonest.lun + (soonest.end - may_go p soonest.lun)

-- what is asked of a LUN that may wait so long
abbrev pub later_of : Bool → ℕ → ℕ → ℕ
later_of waits wait asked = if waits then max wait asked else asked

-- its moves end then, where any does
abbrev pub IsSoonest : Problem → List Move → Soonest → Type 0
IsSoonest p moves soonest = soonest.end < 2 ^ 62 → IsLastEnd p moves soonest.lun (Some soonest.end)

-- whether a move of the LUN yields
abbrev pub yields : List Given → ℕ → Bool
yields [] lun = false
yields (y ∷ given) lun = if lun == y.own then true else yields given lun

-- all yield to the soonest
pub record IsGiven (p : Problem) (soonest : Soonest) (y : Given) : Type 0 where
  pub lun : y.lun ≡ soonest.lun
  pub awaits : Awaits p soonest y.own
  pub longest : y.longest ≡ soonest.end - may_go p soonest.lun

-- the tokens of a node's first moves were written for e
pub record Growing (e : ℕ) (x : Position) (moves firsts : List Move) (soonest : Soonest) (before notes : Notes) (standing : Standing) : Type 0 where
  pub tree : List Token
  pub given : List Given
  pub nodes : nodes_in tree + before.opened ≡ notes.opened
  pub tokens : notes.cert.tokens.items ≡ before.cert.tokens.items ++ Branch (length moves) ∷ tree
  pub in_range : Each InRange tree
  pub children : (rest : List Token) → Children e x.all x.problem moves firsts before.records.nodes.items (tree ++ rest) standing.asked given notes.records.nodes.items rest
  pub each_given : Each (IsGiven x.problem soonest) given
  pub marks : (lun : ℕ) → lun < 8 → slice_index_or standing.yielded lun false ≡ yields given lun

-- a walk between two children of the node x, where these moves are done
pub record Halfway (x : Position) (moves firsts : List Move) (soonest : Soonest) (first best : Best) (before notes : Notes) (standing : Standing) : Type 0 where
  pub open_at : IsOpen first.finish x.problem
  pub is_soonest : IsSoonest x.problem moves soonest
  pub begun : first.finish ≤ before.cert.finish
  pub counted : 1 ≤ before.opened
  pub uncut : before.cut ≡ false
  pub found : IsFound x first best standing.improved
  pub met : (lun : ℕ) → lun < 8 → has_left x.problem lun ≡ true → slice_index standing.asked lun ≤ may_go x.problem lun
  pub waits : (lun : ℕ) → lun < 8 → slice_index_or standing.yielded lun false ≡ true → Awaits x.problem soonest lun
  pub more : before.opened ≤ notes.opened
  pub within : notes.opened ≤ notes.limit
  pub nodes : (f : ℕ) → first.finish ≤ f → Among f x.problem firsts (notes.opened - before.opened)
  pub few : length notes.records.nodes.items + before.opened ≤ length before.records.nodes.items + notes.opened
  pub same_finish : notes.cert.finish ≡ before.cert.finish
  pub same_limit : notes.limit ≡ before.limit
  pub full : notes.cut ≡ true → notes.opened ≡ notes.limit
  pub over : notes.cut ≡ true → (f : ℕ) → first.finish ≤ f → Among f x.problem firsts (before.limit - before.opened + 1)
  pub growing : notes.cut ≡ false → best.finish ≡ before.cert.finish → Growing before.cert.finish x moves firsts soonest before notes standing
