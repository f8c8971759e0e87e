-- What the walks over a problem's tree have found.
use Rattle.std.specs.Prelude.{◌≡◌, ℕ, ◌^◌, ◌≤◌, ◌<◌, true, false}
use Rattle.onfi_problem.specs.Left.{InLimits}
use Rattle.onfi_problem.specs.Position.{Position}
use Rattle.onfi_bound.specs.Loads.{AreLoads}
use Rattle.onfi_check.specs.First.{EndsFirstRun}
use Rattle.onfi_check.specs.Nodes.{HasMoreNodes}
use Rattle.onfi_known_plan.specs.ByRule.{EndsByRule}
use Rattle.onfi_known_plan.specs.Text.{nodes_in}
use Rattle.onfi_known_plan.specs.Walks.{HasSoMany, IsProved, IsRunOf}
use Rattle.onfi_known_plan.specs.declared.planning.Searched.{Searched}

-- the best is a run; where no walk was cut the tokens show that nothing ends sooner, else the tree has more nodes than the limit
pub record IsSearched (x : Position) (limit : ℕ) (searched : Searched) : Type 0 where
  pub limits : InLimits x.problem
  pub are_loads : AreLoads x searched.loads.of.items
  pub run : IsRunOf x searched.best
  pub small : searched.best.finish < 2 ^ 63
  pub first : ℕ
  pub ends : EndsFirstRun x.problem first
  pub sooner : searched.best.finish ≤ first
  pub by_rule : EndsByRule x.problem searched.best.finish
  pub proved : searched.cut ≡ false → IsProved x searched.tokens.items searched.best.finish
  pub counted : searched.cut ≡ false → nodes_in searched.tokens.items ≡ searched.opened
  pub full : searched.cut ≡ true → searched.opened ≡ limit
  pub opened : searched.opened ≤ limit
  pub nodes : HasSoMany x.problem searched.opened
  pub over : searched.cut ≡ true → HasMoreNodes x.problem limit
