-- A search and what it is written as make an optimal plan.
use Rattle.std.proofs.Common.{◌≡◌, ℕ, ◌+◌, ◌-◌, Bool, List, inl, inr, sym, ap, ◌∙◌, subst, arith, ◌≤◌}
use Rattle.std.proofs.lemmas.Bool.{cases_Bool}
use Rattle.onfi_cert.specs.declared.token.Token.{Token}
use Rattle.onfi_problem.specs.Problem.{Problem, IsProblem}
use Rattle.onfi_schedule.specs.Schedule.{Schedule, Legal, Optimal, finish}
use Rattle.onfi_schedule.specs.Runs.{Step, Run, schedule_of}
use Rattle.onfi_check.specs.Tree.{Accepts, AcceptsTokens}
use Rattle.onfi_schedule.proofs.RunLegal.{run_legal}
use Rattle.onfi_check.proofs.Sound.{certified}
use Rattle.onfi_planner.specs.declared.search.Best.{Best}
use Rattle.onfi_planner.specs.declared.root.Root.{Root}
use Rattle.onfi_problem.specs.Position.{Position}
use Rattle.onfi_check.specs.Nodes.{HasNodes, HasTreeOf, HasMoreNodes, OpensNodes}
use Rattle.onfi_planner.specs.Planning.{Searched, HasOpened, IsOver, Found, IsRoot, run_of, AreRising}
use Rattle.onfi_planner.proofs.Rising.{run_rises}
use Rattle.onfi_planner.proofs.Beginning.{first_is_run}
use Rattle.onfi_planner.proofs.Grown.{some_nodes}

pub still_run : (x : Position) (old new : Best) (improved : Bool) → Run x.problem (run_of x.groups old.steps.items) old.finish → Searched x old new improved → Run x.problem (run_of x.groups new.steps.items) new.finish
still_run x old new improved r s = elim (cases_Bool improved) [
  | inl k ↦ s.run k
  | inr k ↦ (let q = s.kept k in subst (λ (b : Best). Run x.problem (run_of x.groups b.steps.items) b.finish) (sym q) r)
]

-- what the search found
pub root_found : (x : Position) (root : Root) (best : Best) (improved : Bool) → IsRoot x root → Searched root.problem root.best best improved → Found x best
root_found x root best improved r s =
    let first = root.best in
    let s' = subst (λ (z : Position). Searched z first best improved) r.same s in
    let le = s'.sooner in
    let small = r.small in
    record {
      run = still_run x first best improved (first_is_run (run_of x.groups first.steps.items) x.problem first.finish r.first_run) s';
      least = s'.least;
      small = omega arith;
    }

pub nodes_opened : (x : Position) (root : Root) (e n : ℕ) → IsRoot x root → HasOpened root.problem.problem root.best.finish e 0 n → OpensNodes x.problem e n
nodes_opened x root e n r opened =
    let first = root.best in
    let o = subst (λ (z : Position). HasOpened z.problem first.finish e 0 n) r.same opened in
    let z : n - 0 ≡ n = omega arith in
    record {
      accepted = subst (HasTreeOf x.problem e) z o.accepted;
      first = first.finish;
      first_run = (run_of x.groups first.steps.items, r.first_run);
      there = subst (HasNodes first.finish x.problem) z (o.nodes first.finish (omega arith));
    }

-- a search that was over
pub more_nodes : (x : Position) (root : Root) (n limit : ℕ) → IsRoot x root → IsOver root.problem.problem root.best.finish 0 n limit
    → (n ≡ limit) × HasMoreNodes x.problem limit
more_nodes x root n limit r over =
    let first = root.best in
    let o = subst (λ (z : Position). IsOver z.problem first.finish 0 n limit) r.same over in
    let z : limit - 0 + 1 ≡ limit + 1 = omega arith in
    let nodes = subst (HasNodes first.finish x.problem) z (o.nodes first.finish (omega arith)) in
    (o.limit, (first.finish, (run_of x.groups first.steps.items, r.first_run), nodes))

pub some_opened : (p : Problem) (finish e n : ℕ) → HasOpened p finish e 0 n → 1 ≤ n
some_opened p finish e n o =
    let (tree, a, k) = o.accepted in
    let some = some_nodes tree in
    omega arith

-- what the schedule of a run is
pub legal_plan : (p : Problem) (steps : List Step) (s : Schedule) (f : ℕ) → IsProblem p → Run p steps f → s ≡ schedule_of p steps
    → Legal p s × (finish p s ≡ f) × AreRising s.groups
legal_plan p steps s f ip run e =
    let l = run_legal steps p f ip run in
    (subst (Legal p) (sym e) l.0, ap (finish p) e ∙ l.1, subst (λ (z : Schedule). AreRising z.groups) (sym e) (run_rises steps p f ip run))

pub optimal_plan : (p : Problem) (s : Schedule) (tokens : List Token) (e : ℕ) → IsProblem p → Legal p s → finish p s ≡ e → AcceptsTokens tokens p e
    → Optimal p s
optimal_plan p s tokens e ip legal ends (tree, t, a) = certified p s tree ip legal (subst (Accepts tree p) (sym ends) a)
