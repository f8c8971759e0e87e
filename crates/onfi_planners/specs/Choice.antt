-- What planners promise that are chosen when a program runs.
use Rattle.std.specs.Prelude.{◌≡◌, ◌+◌, ◌≤◌, ◌<◌, ℕ, Option, Some, None}
use Rattle.onfi_problem.specs.Position.{Position}
use Rattle.onfi_bound.specs.Reaching.{NoneReaches}
use Rattle.onfi_check.specs.Nodes.{HasMoreNodes, IsOpen, OpensNodes}
use Rattle.onfi_plan.specs.Certificate.{IsPlain, IsRemembering}
use Rattle.onfi_plan.specs.declared.plan.Certificate.{Certificate}
use Rattle.onfi_plan.specs.declared.plan.Plan.{Plan}
use Rattle.onfi_steady.specs.Rule.{IsByRule}
use Rattle.onfi_known_plan.specs.ByRule.{EndsByFirst, EndsByRule}
use Rattle.onfi_known_plan.specs.Text.{HasNodesIn}
use Rattle.onfi_planners.specs.Cost.{cost}
use Rattle.onfi_planners.specs.Weighing.{AreWeights}
use Rattle.onfi_planners.specs.declared.by.By.{By}
use Rattle.onfi_planners.specs.declared.by.By.TheVariants.{Plain, Within, Rule}
use Rattle.onfi_planners.specs.declared.chosen.ChosenPlanner.{ChosenPlanner}
use Rattle.onfi_planners.specs.declared.chosen.Early.{Early}
use Rattle.onfi_planners.specs.declared.weights.Weights.{Weights}

-- whichever was chosen
abbrev pub IsAny : Certificate → Type 0
IsAny _ = Unit {0}

-- by the plain search: nothing ends sooner, tokens show it, and it opened as many nodes as the plan says
pub record IsPlannedPlainly (x : Position) (plan : Plan) : Type 0 where
  pub optimal : plan.below ≡ plan.finish
  pub tokens : IsPlain plan.certificate
  pub counted : OpensNodes x.problem plan.finish plan.opened

-- within a limit: it ends no later than the rule's plan and than the first schedule; where it may end too late the tree has more
-- nodes than the limit, and the certificate shows no less than the greatest bound. Where fewer nodes were opened than the limit
-- they are those of the certificate
pub record IsPlannedWithin (x : Position) (limit : ℕ) (plan : Plan) : Type 0 where
  pub text : IsRemembering plan.certificate
  pub by_rule : EndsByRule x.problem plan.finish
  pub by_first : EndsByFirst x.problem plan.finish
  pub short : plan.below < plan.finish → HasMoreNodes x.problem limit
  pub greatest : plan.below < plan.finish → IsOpen (plan.below + 1) x.problem
  pub counted : plan.opened < limit → HasNodesIn x.problem plan.certificate plan.opened

-- by the rule: its own schedule, with what the greatest bound shows; no node is opened
pub record IsPlannedByRule (x : Position) (plan : Plan) : Type 0 where
  pub text : IsRemembering plan.certificate
  pub rule : IsByRule x.problem plan.schedule plan.finish
  pub greatest : NoneReaches x.problem (plan.below + 1)
  pub opened : plan.opened ≡ 0

abbrev pub IsPlannedBy : By → Position → ℕ → Plan → Type 0
IsPlannedBy Plain x limit plan = IsPlannedPlainly x plan
IsPlannedBy Within x limit plan = IsPlannedWithin x limit plan
IsPlannedBy Rule x limit plan = IsPlannedByRule x plan

-- a plan with another schedule, which ends no later and costs no more by these weights
pub record IsMadeFrom (weights : Weights) (x : Position) (first plan : Plan) : Type 0 where
  pub certificate : plan.certificate ≡ first.certificate
  pub below : plan.below ≡ first.below
  pub opened : plan.opened ≡ first.opened
  pub in_time : plan.finish ≤ first.finish
  pub no_dearer : cost weights x plan.schedule ≤ cost weights x first.schedule

-- the plan was made better as was asked: by weights of that weighing, and with no node it stays
pub record IsBetter (early : Early) (x : Position) (first plan : Plan) : Type 0 where
  pub weights : Weights
  pub weighed : AreWeights early.weighing weights
  pub made : IsMadeFrom weights x first plan
  pub as_is : early.nodes ≡ 0 → plan ≡ first

abbrev pub IsEarly : Option Early → Position → Plan → Plan → Type 0
IsEarly None x first plan = plan ≡ first
IsEarly (Some early) x first plan = IsBetter early x first plan

-- what a chosen planner promises of its plan: one was found as was chosen, and made better where that was asked
pub record IsChosen (planner : ChosenPlanner) (x : Position) (limit : ℕ) (plan : Plan) : Type 0 where
  pub first : Plan
  pub planned : IsPlannedBy planner.by x limit first
  pub early : IsEarly planner.early x first plan
