-- The steps of the rule are a run, and the only one.
use Rattle.std.proofs.Common.{◌≡◌, ◌∙◌, ℕ, List, [], ◌∷◌, ap, sym, subst, arith}
use Rattle.onfi_problem.specs.Problem.{Problem}
use Rattle.onfi_problem.specs.Position.{Position}
use Rattle.onfi_problem.specs.Moves.{IsMove, after, earliest}
use Rattle.onfi_schedule.specs.Runs.{Step, Run}
use Rattle.onfi_schedule.proofs.Exchange.{not_done}
use Rattle.onfi_planner.specs.declared.search.Begun.{Begun}
use Rattle.onfi_planner.specs.Planning.{run_of}
use Rattle.onfi_steady.specs.Waiting.{Books}
use Rattle.onfi_steady.specs.Dispatcher.{begun_books}
use Rattle.onfi_steady.specs.Next.{move_by, move_of_phase}
use Rattle.onfi_steady.specs.Rule.{IsRuleRun, IsWayRun, batch_of}
use Rattle.onfi_steady.proofs.Following.{one_next}

-- a step of the way is a move at its earliest
way_is_run : (steps : List Step) (books : Books) (p : Problem) (f : ℕ) → IsWayRun books p steps f → Run p steps f
way_is_run [] books p f d = d
way_is_run (s ∷ steps) books p f (phase, next, move, start, more) =
    let at : s.start ≡ earliest p s.move = start ∙ (next.start ∙ ap (earliest p) (sym move)) in
    (subst (IsMove p) (sym move) next.move, omega arith, rw at (way_is_run steps (begun_books books phase.lun phase.members.items) (after p s.move) f more))

-- the steps of the rule are a run
pub rule_is_run : (steps : List Step) (p : Problem) (f : ℕ) → IsRuleRun p steps f → Run p steps f
rule_is_run steps p f run = way_is_run steps (batch_of p) p f run

-- .. given as a slice
pub kept_run : (x : Position) (steps items : List Begun) (f : ℕ) → items ≡ steps → IsRuleRun x.problem (run_of x.groups steps) f
    → Run x.problem (run_of x.groups items) f
kept_run x steps items f e run = subst (λ z. Run x.problem (run_of x.groups z) f) (sym e) (rule_is_run (run_of x.groups steps) x.problem f run)

-- the way's runs end at one time
way_end : (steps others : List Step) (books : Books) (p : Problem) (f g : ℕ) → IsWayRun books p steps f → IsWayRun books p others g → f ≡ g
way_end [] [] books p f g a b = sym a.1 ∙ b.1
way_end [] (t ∷ others) books p f g a (phase, next, move, start, more) = absurd (not_done p (move_of_phase phase) a.0 next.move)
way_end (s ∷ steps) [] books p f g (phase, next, move, start, more) b = absurd (not_done p (move_of_phase phase) b.0 next.move)
way_end (s ∷ steps) (t ∷ others) books p f g (a, first, move, start, more) (b, other, movement, begin, left) =
    let same = one_next books p a b first other in
    let moves : t.move ≡ s.move = movement ∙ (ap (λ l. move_by l b.members.items) (sym same.lun) ∙ (ap (move_by a.lun) (sym same.members) ∙ sym move)) in
    let books' : begun_books books b.lun b.members.items ≡ begun_books books a.lun a.members.items =
    ap (λ l. begun_books books l b.members.items) (sym same.lun) ∙ ap (begun_books books a.lun) (sym same.members) in
    way_end steps others (begun_books books a.lun a.members.items) (after p s.move) f g more
    (subst (λ z. IsWayRun z (after p s.move) others g) books' (subst (λ m. IsWayRun (begun_books books b.lun b.members.items) (after p m) others g) moves left))

pub one_end : (steps others : List Step) (p : Problem) (f g : ℕ) → IsRuleRun p steps f → IsRuleRun p others g → f ≡ g
one_end steps others p f g a b = way_end steps others (batch_of p) p f g a b
