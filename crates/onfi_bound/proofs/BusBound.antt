-- The bus bound is at most the finish of each run.
use Rattle.std.proofs.Common.{◌≡◌, ◌≢◌, ℕ, suc, ◌+◌, ◌-◌, ◌≤◌, List, [], ◌∷◌, length, Some, refl, sym, ap, arith}
use Rattle.std.specs.Prelude.{slice_get}
use Rattle.onfi_timing.proofs.Shared.{one_operation}
use Rattle.onfi_request.specs.declared.want.Want.{Want}
use Rattle.onfi_problem.specs.declared.lun_state.LunState.{LunState}
use Rattle.onfi_problem.specs.declared.lun_state.LunState.TheVariants.{Free, Running}
use Rattle.onfi_problem.specs.Moves.{Move, Next, Start, IsMove, earliest, placed, after, lun_after}
use Rattle.onfi_group.specs.Words.{total}
use Rattle.onfi_problem.specs.Problem.{Problem, IsProblem}
use Rattle.onfi_timing.specs.Kinds.{spans_of}
use Rattle.onfi_group.specs.Group.{kind_of, group_spans, lun_of}
use Rattle.onfi_timing.specs.Phases.{phase_length}
use Rattle.onfi_schedule.specs.Runs.{Step, Run}
use Rattle.onfi_problem.specs.Left.{command_time, post_time, want_command, want_post, work}
use Rattle.onfi_bound.specs.Bounds.{bus}
use Rattle.onfi_problem.proofs.Perm.{All-weaker}
use Rattle.onfi_problem.proofs.Totals.{total_set, total_same, startable_total}
use Rattle.onfi_problem.proofs.Work.{one_phase, commands_after, posts_after}
use Rattle.onfi_problem.proofs.Kept.{kept}
use Rattle.onfi_bound.proofs.GroupPosts.{start_posts}

-- after a move all that was left comes after its start
pub bus_placed : (p : Problem) (m : Move) (t : ℕ) → IsProblem p → IsMove p m → bus (placed p m t) ≡ t + work p
bus_placed p (Next l) t ip (g, n, r, at) =
    let i = ip.running l g n r at in
    let some = i.group.some in
    let c = t + phase_length (group_spans p.timing g) (length g) n in
    let one = one_phase p.timing g n i.unfinished in
    let a = total_set (command_time p.timing) p.luns l _ (lun_after p.timing g n c) at in
    let b = total_set (post_time p.timing) p.luns l _ (lun_after p.timing g n c) at in
    let a' = commands_after p.timing g n c some in
    let b' = posts_after p.timing g n c some in
    rw at (omega arith)
bus_placed p (Start ms) t ip (since, at, st) =
    let some = st.group.some in
    let k = length ms in
    let spans = group_spans p.timing ms in
    let c = t + phase_length spans k 0 in
    let z : k - 0 ≡ k = omega arith in
    let one = rw z at (one_phase p.timing ms 0 (omega arith)) in
    let a = total_set (command_time p.timing) p.luns (lun_of ms) _ (lun_after p.timing ms 0 c) at in
    let b = total_set (post_time p.timing) p.luns (lun_of ms) _ (lun_after p.timing ms 0 c) at in
    let a' = commands_after p.timing ms 0 c some in
    let b' = posts_after p.timing ms 0 c some in
    let wc = startable_total (want_command p.timing) p ms ip st in
    let wp = startable_total (want_post p.timing) p ms ip st in
    let mc = total_same (want_command p.timing) spans.cmd ms (All-weaker _ _ (λ (m : Want) e. (one_operation p.timing (kind_of ms) m.kind (sym e)).cmd) ms st.group.operation) in
    let mp = start_posts p.timing ms in
    omega arith

pub bus_after : (p : Problem) (m : Move) → IsProblem p → IsMove p m → bus (after p m) ≡ earliest p m + work p
bus_after p m ip im = bus_placed p m (earliest p m) ip im

pub bus_step : (p : Problem) (m : Move) (t : ℕ) → IsProblem p → IsMove p m → earliest p m ≤ t → bus p ≤ bus (placed p m t)
bus_step p m t ip im on_time = let e = bus_placed p m t ip im in omega arith

pub free_total : (f : LunState → ℕ) → ((since : ℕ) → f (Free since) ≡ 0) → (luns : List LunState) → ((l : ℕ) (g : List Want) (n r : ℕ) → slice_get luns l ≢ Some (Running g n r)) → total f luns ≡ 0
free_total f z [] h = refl
free_total f z (Free since ∷ luns) h = let e = free_total f z luns (λ l. h (suc l)) in let q = z since in omega arith
free_total f z (Running g n r ∷ luns) h = absurd (h 0 g n r refl)

pub bus_bound : (steps : List Step) (p : Problem) (f : ℕ) → IsProblem p → Run p steps f → bus p ≤ f
bus_bound [] p f ip (done, e) =
    let a = free_total (command_time p.timing) (λ _. refl) p.luns done.free in
    let b = free_total (post_time p.timing) (λ _. refl) p.luns done.free in
    let w = done.wants in
    rw w (omega arith)
bus_bound (s ∷ steps) p f ip (mv, on_time, run) =
    let a = bus_step p s.move s.start ip mv on_time in
    let b = bus_bound steps (placed p s.move s.start) f (kept p s.move s.start ip mv) run in
    omega arith
