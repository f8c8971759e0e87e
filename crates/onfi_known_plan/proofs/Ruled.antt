-- What ends no later than the schedule of the rule.
use Rattle.std.proofs.Common.{◌≡◌, ℕ, ◌≤◌, List, arith}
use Rattle.onfi_problem.specs.Problem.{Problem, IsProblem}
use Rattle.onfi_schedule.specs.Runs.{Step, Run}
use Rattle.onfi_bound.specs.declared.bound.Bound.{Bound}
use Rattle.onfi_bound.specs.declared.bound.Bound.TheVariants.{Bus, Lead, Trail, Die}
use Rattle.onfi_bound.specs.Reaching.{Reaches}
use Rattle.onfi_bound.proofs.BusBound.{bus_bound}
use Rattle.onfi_bound.proofs.LeadBound.{lead_bound}
use Rattle.onfi_bound.proofs.TrailBound.{trail_bound}
use Rattle.onfi_bound.proofs.DieBound.{die_bound}
use Rattle.onfi_steady.specs.Rule.{IsRuleRun}
use Rattle.onfi_steady.proofs.RuleRun.{one_end, rule_is_run}
use Rattle.onfi_known_plan.specs.ByRule.{EndsByRule}

-- no run ends before what a bound reaches
reached_by_run : (p : Problem) (e : ℕ) (b : Bound) (steps : List Step) (f : ℕ) → IsProblem p → Reaches p e b → Run p steps f → e ≤ f
reached_by_run p e Bus steps f problem reaches run = let le = bus_bound steps p f problem run in omega arith
reached_by_run p e Lead steps f problem reaches run = let le = lead_bound steps p f problem run in omega arith
reached_by_run p e Trail steps f problem (t, is, reaches) run = let le = trail_bound steps p f t problem is run in omega arith
reached_by_run p e (Die lun) steps f problem (there, reaches) run = let le = die_bound steps p f lun problem there run in omega arith

pub ruled_by_bound : (p : Problem) (e : ℕ) (b : Bound) → IsProblem p → Reaches p e b → EndsByRule p e
ruled_by_bound p e b problem reaches = λ steps f run. reached_by_run p e b steps f problem reaches (rule_is_run steps p f run)

-- no later than a run of the rule
pub ruled_by_run : (p : Problem) (e f : ℕ) (steps : List Step) → IsRuleRun p steps f → e ≤ f → EndsByRule p e
ruled_by_run p e f steps run le = λ others g other. let same = one_end steps others p f g run other in omega arith

pub ruled_sooner : (p : Problem) (e f : ℕ) → EndsByRule p f → e ≤ f → EndsByRule p e
ruled_sooner p e f ruled le = λ steps g run. let late = ruled steps g run in omega arith
