-- A run is a legal schedule that ends when it does.
use Rattle.std.proofs.Common.{◌≡◌, ◌≢◌, ℕ, zero, suc, ◌+◌, ◌≤◌, List, [], ◌∷◌, length, Some, refl, sym, ap, ◌∙◌, subst}
use Rattle.std.specs.Prelude.{slice_get, map}
use Rattle.std.specs.List.{AllByRecursion as All}
use Rattle.onfi_request.specs.declared.want.Want.{Want}
use Rattle.onfi_problem.specs.declared.lun_state.LunState.{LunState}
use Rattle.onfi_problem.specs.declared.lun_state.LunState.TheVariants.{Free, Running}
use Rattle.onfi_problem.specs.Problem.{Problem, IsProblem}
use Rattle.onfi_schedule.specs.Schedule.{Apart, KeepsBlockOrder, phases, rest_phases, finish, Legal}
use Rattle.onfi_group.specs.Words.{Pairs}
use Rattle.onfi_problem.specs.Moves.{IsDone, placed}
use Rattle.onfi_schedule.specs.Runs.{Step, Run, empty, schedule_of}
use Rattle.onfi_schedule.proofs.Back.{move_back}
use Rattle.onfi_problem.proofs.Kept.{kept}

length_none : (luns : List LunState) → length (map {B = List ℕ} (λ _. []) luns) ≡ length luns
length_none [] = refl
length_none (x ∷ luns) = ap suc (length_none luns)

get_none : (luns : List LunState) (l : ℕ) (ts : List ℕ) → slice_get (map {B = List ℕ} (λ _. []) luns) l ≡ Some ts → ts ≡ []
get_none [] l ts h = cc
get_none (x ∷ luns) zero ts h = cc
get_none (x ∷ luns) (suc l) ts h = get_none luns l ts h

none_left : (timing : _) (first : ℕ) (luns : List LunState) → ((l : ℕ) (g : List Want) (n r : ℕ) → slice_get luns l ≢ Some (Running g n r)) → rest_phases timing first luns (map {B = List ℕ} (λ _. []) luns) ≡ []
none_left timing first [] h = refl
none_left timing first (Free a ∷ luns) h = none_left timing (first + 1) luns (λ l. h (suc l))
none_left timing first (Running g n r ∷ luns) h = absurd (h 0 g n r refl)

no_phase : (p : Problem) → IsDone p → phases p (empty p) ≡ []
no_phase p done = rw (none_left p.timing 0 p.luns done.free) refl

empty_legal : (p : Problem) → IsDone p → Legal p (empty p)
empty_legal p done =
    let z = no_phase p done in
    let w = done.wants in
    record {
      shape = record {
        luns = length_none p.luns;
        rest = λ l g n r ts h k. absurd (done.free l g n r h);
        no_rest = λ l since ts h k. get_none p.luns l ts k;
        starts = tt;
        wants_only = tt;
        once = λ id. rw w refl;
      };
      from_bus_free = subst (All (λ x. p.bus_free ≤ x.start)) (sym z) tt;
      no_overlap = subst (Pairs Apart) (sym z) tt;
      rest_waits = λ l g n r ts h k. absurd (done.free l g n r h);
      waits = tt;
      running_first = tt;
      turns = tt;
      from_since = tt;
      block_order = subst (Pairs (KeepsBlockOrder p.timing [])) (sym w) tt;
      group = tt;
    }

pub run_legal : (steps : List Step) (p : Problem) (f : ℕ) → IsProblem p → Run p steps f → Legal p (schedule_of p steps) × (finish p (schedule_of p steps) ≡ f)
run_legal [] p f ip (done, e) = (empty_legal p done, rw (no_phase p done) e)
run_legal (s ∷ steps) p f ip (mv, on_time, run) =
    let r = run_legal steps (placed p s.move s.start) f (kept p s.move s.start ip mv) run in
    let b = move_back p s.move s.start (schedule_of (placed p s.move s.start) steps) ip mv on_time r.0 in
    (b.0, b.1 ∙ r.1)
