-- A plan that is given at any limit, and what shows before what nothing ends.
use Rattle.std.specs.Prelude.{◌≡◌, ℕ, ◌+◌, ◌^◌, ◌≤◌, ◌<◌}
use Rattle.onfi_problem.specs.Left.{InLimits}
use Rattle.onfi_problem.specs.Position.{Position}
use Rattle.onfi_problem.specs.Problem.{Problem}
use Rattle.onfi_schedule.specs.Schedule.{Legal, Optimal, finish}
use Rattle.onfi_check.specs.First.{EndsFirstRun}
use Rattle.onfi_check.specs.Nodes.{HasMoreNodes, IsOpen}
use Rattle.onfi_planner.specs.Planning.{AreRising}
use Rattle.onfi_plan.specs.Certificate.{IsRemembering, ShowsBelow}
use Rattle.onfi_plan.specs.declared.plan.Plan.{Plan}
use Rattle.onfi_known_plan.specs.ByRule.{EndsByRule}
use Rattle.onfi_known_plan.specs.Text.{nodes_in}
use Rattle.onfi_known_plan.specs.Walks.{ClosesBy, HasSoMany, IsProved, IsRunOf}
use Rattle.onfi_known_plan.specs.declared.gap.Gap.{Gap}
use Rattle.onfi_known_plan.specs.declared.sought.Sought.{Sought}
use Rattle.onfi_known_plan.specs.declared.within.ShownBefore.{ShownBefore}

-- the greatest number up to e that a bound shows is looked for: the token shows `below`, and no bound reaches more than `most`
pub record IsSought (p : Problem) (e : ℕ) (sought : Sought) : Type 0 where
  pub closes : ClosesBy p sought.below sought.closing
  pub within : sought.below ≤ sought.most
  pub most : sought.most ≤ e
  pub open_above : sought.most < e → IsOpen (sought.most + 1) p

-- tokens show that nothing ends before `below`, which is all that the bounds reach, or e
pub record IsShownBefore (x : Position) (e : ℕ) (shown : ShownBefore) : Type 0 where
  pub within : shown.below ≤ e
  pub proved : IsProved x shown.tokens.items shown.below
  pub greatest : shown.below < e → IsOpen (shown.below + 1) x.problem

-- the best schedule is a run, and nothing ends before what is shown; where the two differ the tree has more nodes than the limit
pub record IsGap (x : Position) (limit : ℕ) (gap : Gap) : Type 0 where
  pub limits : InLimits x.problem
  pub run : IsRunOf x gap.best
  pub small : gap.best.finish < 2 ^ 63
  pub shown : IsShownBefore x gap.best.finish gap.shown
  pub first : ℕ
  pub ends : EndsFirstRun x.problem first
  pub sooner : gap.best.finish ≤ first
  pub by_rule : EndsByRule x.problem gap.best.finish
  pub opened : gap.opened ≤ limit
  pub counted : gap.opened < limit → nodes_in gap.shown.tokens.items ≡ gap.opened
  pub nodes : HasSoMany x.problem gap.opened
  pub over : gap.shown.below < gap.best.finish → HasMoreNodes x.problem limit

-- a legal schedule is given with its finish, and with what no other ends before: all that the root's bounds reach, and the
-- finish only where the schedule is optimal
pub record IsWithin (x : Position) (plan : Plan) : Type 0 where
  pub legal : Legal x.problem plan.schedule
  pub ends : finish x.problem plan.schedule ≡ plan.finish
  pub rising : AreRising plan.schedule.groups
  pub below : plan.below ≤ plan.finish
  pub cert : ShowsBelow plan.certificate x.all x.problem plan.below
  pub kind : IsRemembering plan.certificate
  pub greatest : plan.below < plan.finish → IsOpen (plan.below + 1) x.problem
  pub optimal : plan.below ≡ plan.finish → Optimal x.problem plan.schedule
