-- The die bound is at most the finish of each run.
use Rattle.std.proofs.Common.{◌≡◌, ◌≢◌, ℕ, ◌+◌, ◌*◌, ◌-◌, ◌≤◌, ◌<◌, inl, inr, false, List, [], ◌∷◌, length, Option, Some, None, refl, sym, ap, ◌∙◌, arith}
use Rattle.std.specs.Prelude.{slice_get, slice_set, max, ◌==◌}
use Rattle.std.specs.List.{AllByRecursion as All}
use Rattle.std.proofs.lemmas.Bool.{cases_Bool, eq-eqb, eqb-true}
use Rattle.onfi_timing.proofs.Shared.{one_operation}
use Rattle.onfi_timing.specs.declared.timing.Timing.{Timing}
use Rattle.onfi_request.specs.declared.want.Want.{Want}
use Rattle.onfi_problem.specs.declared.lun_state.LunState.{LunState}
use Rattle.onfi_problem.specs.declared.lun_state.LunState.TheVariants.{Free, Running}
use Rattle.onfi_problem.specs.Moves.{Move, Next, Start, IsMove, earliest, free_from, lun_after, ran_with, placed, without}
use Rattle.onfi_group.specs.declared.rules.Rules.{Rules}
use Rattle.onfi_group.specs.Words.{Has, total}
use Rattle.onfi_problem.specs.Problem.{Problem, IsProblem}
use Rattle.onfi_timing.specs.Kinds.{spans_of}
use Rattle.onfi_group.specs.Group.{kind_of, group_spans, lun_of, IsStartable, is_member}
use Rattle.onfi_timing.specs.Phases.{phase_length, posts_from}
use Rattle.onfi_schedule.specs.Runs.{Step, Run}
use Rattle.onfi_problem.specs.Left.{commands_left, waits_left, chain_time, want_command, want_post}
use Rattle.onfi_bound.specs.Bounds.{on_lun, wants_work, die_at, die}
use Rattle.onfi_problem.proofs.Perm.{All-has, All-each, All-weaker}
use Rattle.onfi_problem.proofs.Places.{get_set_same, get_set_other, same_place}
use Rattle.onfi_problem.proofs.Wants.{Pairs-filter, Has-filter}
use Rattle.onfi_problem.proofs.Totals.{total_same, split_total, startable_wanted, startable_apart}
use Rattle.onfi_problem.proofs.Work.{one_phase}
use Rattle.onfi_problem.proofs.Waits.{one_wait, chain_after, free_after}
use Rattle.onfi_bound.proofs.GroupPosts.{start_posts}
use Rattle.onfi_bound.proofs.Classes.{waits_step, no_waits_left}
use Rattle.onfi_schedule.proofs.Exchange.{not_member}
use Rattle.onfi_problem.proofs.Kept.{kept, placed_luns}
use Rattle.onfi_problem.proofs.LunAfter.{free_is}

-- all that is left to a LUN, from when it may go on
abbrev all_work : Problem → ℕ → LunState → List Want → ℕ
all_work p lun x ws = max p.bus_free (free_from (Some x)) + chain_time p.timing x + wants_work p.timing p.rules ws

pub no_work : (timing : Timing) (rules : Rules) → wants_work timing rules [] ≡ 0
no_work timing rules = let a = no_waits_left timing rules in omega arith

die_below : (p : Problem) (lun : ℕ) (x : LunState) (ws : List Want) → slice_get p.luns lun ≡ Some x → die_at p lun ws (Some x) ≤ all_work p lun x ws
die_below p lun (Running g n r) ws at = rw at (omega arith)
die_below p lun (Free since) (w ∷ ws) at = rw at (omega arith)
die_below p lun (Free since) [] at = omega arith

-- the same, where the LUN may go on at once or has something left
die_above : (p : Problem) (lun : ℕ) (x : LunState) (ws : List Want) → slice_get p.luns lun ≡ Some x → ((since : ℕ) → x ≡ Free since → since ≤ p.bus_free) → all_work p lun x ws ≤ die_at p lun ws (Some x)
die_above p lun (Running g n r) ws at h = rw at (omega arith)
die_above p lun (Free since) (w ∷ ws) at h = rw at (omega arith)
die_above p lun (Free since) [] at h = let a = h since refl in let b = no_work p.timing p.rules in omega arith

pub on_lun_other : (ms ws : List Want) (lun : ℕ) → ((w : Want) → Has ws w → w.lun ≡ lun → is_member ms w ≡ false) → on_lun lun (without ms ws) ≡ on_lun lun ws
on_lun_other ms [] lun h = refl
on_lun_other ms (w ∷ ws) lun h =
    let r = on_lun_other ms ws lun (λ v i. h v (inr i)) in
    elim (cases_Bool (w.lun == lun)) [
      | inl k ↦ (let n = h w (inl refl) (eqb-true w.lun lun k) in simp (n, k) (ap (λ vs. w ∷ vs) r))
      | inr k ↦ elim (cases_Bool (is_member ms w)) [ inl n ↦ simp (k, n) r | inr n ↦ simp (k, n) r ]
    ]

pub on_lun_own : (ms ws : List Want) (lun : ℕ) → on_lun lun (without ms ws) ≡ without ms (on_lun lun ws)
on_lun_own ms [] lun = refl
on_lun_own ms (w ∷ ws) lun =
    let r = on_lun_own ms ws lun in
    elim (cases_Bool (w.lun == lun)) [
      | inl k ↦ elim (cases_Bool (is_member ms w)) [ inl n ↦ simp (k, n) r | inr n ↦ simp (k, n) (ap (λ vs. w ∷ vs) r) ]
      | inr k ↦ elim (cases_Bool (is_member ms w)) [ inl n ↦ simp (k, n) r | inr n ↦ simp (k, n) r ]
    ]

-- later is later
die_later : (p : Problem) (c lun : ℕ) (luns' : List LunState) (wants' ws : List Want) (o : Option LunState) → slice_get luns' lun ≡ slice_get p.luns lun → p.bus_free ≤ c → die_at p lun ws o ≤ die_at (record { timing = p.timing; rules = p.rules; bus_free = c; luns = luns'; wants = wants' }) lun ws o
die_later p c lun luns' wants' ws (Some (Running g n r)) e le = rw e (omega arith)
die_later p c lun luns' wants' (w ∷ ws) (Some (Free a)) e le = rw e (omega arith)
die_later p c lun luns' wants' [] (Some (Free a)) e le = le
die_later p c lun luns' wants' (w ∷ ws) None e le = rw e (omega arith)
die_later p c lun luns' wants' [] None e le = le

-- a phase of this LUN
own_step : (p : Problem) (l : ℕ) (g : List Want) (n t : ℕ) (x : LunState) (wants' ws ws' : List Want) → slice_get p.luns l ≡ Some x → 1 ≤ length g → n < 2 * length g → all_work p l x ws ≤ t + (commands_left (length g) n * (group_spans p.timing g).cmd + posts_from (group_spans p.timing g) (length g) n + waits_left (group_spans p.timing g) (length g) n) + wants_work p.timing p.rules ws' → die_at p l ws (slice_get p.luns l) ≤ die_at (ran_with p l g n t wants') l ws' (slice_get (ran_with p l g n t wants').luns l)
own_step p l g n t x wants' ws ws' at some h le =
    let spans = group_spans p.timing g in
    let c = t + phase_length spans (length g) n in
    let y = lun_after p.timing g n c in
    let there = get_set_same p.luns l x y at in
    let a = die_below p l x ws at in
    let b = die_above (ran_with p l g n t wants') l y ws' there (λ since e. let f = free_is p.timing g n c since (ap Some e) in omega (arith, f.0)) in
    let u = one_phase p.timing g n h in
    let w = one_wait spans (length g) n in
    let q = chain_after p.timing g n c some in
    let f = free_after p.timing g n c some h in
    rw (at, there) (omega arith)

-- two sums at once
total_both : (f g : Want → ℕ) (ws : List Want) → total (λ w. f w + g w) ws ≡ total f ws + total g ws
total_both f g [] = refl
total_both f g (w ∷ ws) = let e = total_both f g ws in omega arith

start_work : (p : Problem) (ms : List Want) → IsProblem p → IsStartable p.rules p.wants ms → wants_work p.timing p.rules (on_lun (lun_of ms) p.wants) ≤ length ms * (group_spans p.timing ms).cmd + posts_from (group_spans p.timing ms) (length ms) 0 + waits_left (group_spans p.timing ms) (length ms) 0 + wants_work p.timing p.rules (on_lun (lun_of ms) (without ms p.wants))
start_work p ms ip st =
    let lun = lun_of ms in
    let ws = on_lun lun p.wants in
    let spans = group_spans p.timing ms in
    let rising = Pairs-filter _ (λ w. w.lun == lun) p.wants ip.ids in
    let apart = startable_apart p ms ip st in
    let wanted : All (Has ws) ms = All-each (Has ws) ms (λ m h. Has-filter (λ w. w.lun == lun) p.wants m (All-has (Has p.wants) ms m (startable_wanted p ms st) h) (eq-eqb m.lun lun (All-has _ ms m st.group.lun h))) in
    let a = waits_step p.timing p.rules ms ws st.group rising wanted apart in
    let b = split_total (λ w. want_command p.timing w + want_post p.timing w) ms ws rising wanted apart in
    let both = total_both (want_command p.timing) (want_post p.timing) ms in
    let d = total_same (want_command p.timing) spans.cmd ms (All-weaker _ _ (λ (m : Want) e. (one_operation p.timing (kind_of ms) m.kind (sym e)).cmd) ms st.group.operation) in
    let posts = start_posts p.timing ms in
    rw (on_lun_own ms p.wants lun) (omega arith)

die_step : (p : Problem) (m : Move) (t lun : ℕ) → IsProblem p → IsMove p m → earliest p m ≤ t → lun < length p.luns → die p lun ≤ die (placed p m t) lun
die_step p (Next l) t lun ip (g, n, r, at) late within =
    let i = ip.running l g n r at in
    let late' : max p.bus_free r ≤ t = rw at at late in
    let c = t + phase_length (group_spans p.timing g) (length g) n in
    elim (same_place l lun) [
      | inl e ↦ rw (at, ← e) (own_step p l g n t (Running g n r) p.wants (on_lun l p.wants) (on_lun l p.wants) at i.group.some i.unfinished (omega arith))
      | inr d ↦ (
          let same = get_set_other p.luns l lun (lun_after p.timing g n c) (λ e. d (sym e)) in
          rw at (rw same (die_later p c lun (slice_set p.luns l (lun_after p.timing g n c)) p.wants (on_lun lun p.wants) (slice_get p.luns lun) same (omega arith))))
    ]
die_step p (Start ms) t lun ip (since, at, st) late within =
    let l = lun_of ms in
    let some = st.group.some in
    let late' : max p.bus_free since ≤ t = rw at at late in
    let c = t + phase_length (group_spans p.timing ms) (length ms) 0 in
    elim (same_place l lun) [
      | inl e ↦ (
          let z : length ms - 0 ≡ length ms = omega arith in
          let w = start_work p ms ip st in
          rw (← e) (own_step p l ms 0 t (Free since) (without ms p.wants) (on_lun l p.wants) (on_lun l (without ms p.wants)) at some (omega arith) (rw z (omega arith))))
      | inr d ↦ (
          let same = get_set_other p.luns l lun (lun_after p.timing ms 0 c) (λ e. d (sym e)) in
          let wants = on_lun_other ms p.wants lun (λ w h k. not_member p ip ms st w h (λ q. d (sym q ∙ k))) in
          rw (wants, same) (die_later p c lun (slice_set p.luns l (lun_after p.timing ms 0 c)) (without ms p.wants) (on_lun lun p.wants) (slice_get p.luns lun) same (omega arith)))
    ]

done_die : (p : Problem) (lun : ℕ) (o : Option LunState) → ((g : List Want) (n r : ℕ) → o ≢ Some (Running g n r)) → die_at p lun [] o ≡ p.bus_free
done_die p lun None h = refl
done_die p lun (Some (Free a)) h = refl
done_die p lun (Some (Running g n r)) h = absurd (h g n r refl)

pub die_bound : (steps : List Step) (p : Problem) (f lun : ℕ) → IsProblem p → lun < length p.luns → Run p steps f → die p lun ≤ f
die_bound [] p f lun ip within (done, e) = let w = done.wants in let q = done_die p lun (slice_get p.luns lun) (done.free lun) in rw w (omega arith)
die_bound (s ∷ steps) p f lun ip within (mv, on_time, run) =
    let a = die_step p s.move s.start lun ip mv on_time within in
    let same = placed_luns p s.move s.start mv in
    let b = die_bound steps (placed p s.move s.start) f lun (kept p s.move s.start ip mv) (omega arith) run in
    omega arith
