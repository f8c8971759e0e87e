-- The lead bound is at most the finish of each run.
use Rattle.std.proofs.Common.{◌≡◌, ◌≢◌, ℕ, zero, suc, ◌+◌, ◌*◌, ◌-◌, ◌≤◌, ◌<◌, inl, inr, List, [], ◌∷◌, length, Option, Some, None, refl, sym, ap, ◌∙◌, subst, arith}
use Rattle.std.specs.Prelude.{slice_get, slice_set, max, min, ◌==◌}
use Rattle.std.specs.List.{AllByRecursion as All}
use Rattle.std.proofs.lemmas.Bool.{cases_lt, eq-eqb, lt-ltb, le-ltb}
use Rattle.onfi_timing.proofs.Shared.{one_operation}
use Rattle.onfi_request.specs.declared.want.Want.{Want}
use Rattle.onfi_problem.specs.declared.lun_state.LunState.{LunState}
use Rattle.onfi_problem.specs.declared.lun_state.LunState.TheVariants.{Free, Running}
use Rattle.onfi_problem.specs.Moves.{Move, Next, Start, IsMove, IsDone, earliest, lun_after, ran_with, placed, without, may_go}
use Rattle.onfi_group.specs.Words.{Has, total}
use Rattle.onfi_problem.specs.Problem.{Problem, IsProblem}
use Rattle.onfi_timing.specs.Kinds.{spans_of}
use Rattle.onfi_group.specs.Group.{kind_of, group_spans, lun_of, IsStartable}
use Rattle.onfi_group.proofs.PhaseLengths.{posts_behind_command, posts_behind_post}
use Rattle.onfi_timing.specs.Phases.{phase_length, wait_before, posts_from}
use Rattle.onfi_schedule.specs.Runs.{Step, Run}
use Rattle.onfi_problem.specs.Left.{commands_left, post_time, waits_left, want_post, all_posts}
use Rattle.onfi_bound.specs.Bounds.{on_lun, least, least_with, plus_each, to_post, post_starts, lead, bus}
use Rattle.onfi_problem.proofs.Perm.{All-has, All-weaker, Has-map, Has-append_right, Has-append_cases}
use Rattle.onfi_problem.proofs.Places.{get_set_same, get_set_other, same_place}
use Rattle.onfi_problem.proofs.Wants.{Has-filter}
use Rattle.onfi_problem.proofs.Totals.{total_set, startable_total, startable_wanted}
use Rattle.onfi_problem.proofs.LunAfter.{lun_after_running}
use Rattle.onfi_problem.proofs.Work.{posts_after, one_less}
use Rattle.onfi_bound.proofs.GroupPosts.{start_posts}
use Rattle.onfi_bound.proofs.BusBound.{bus_bound, free_total}
use Rattle.onfi_problem.proofs.Waits.{one_wait}
use Rattle.onfi_bound.proofs.DieBound.{on_lun_other}
use Rattle.onfi_bound.proofs.Classes.{times_left}
use Rattle.onfi_schedule.proofs.Exchange.{not_member}
use Rattle.onfi_problem.proofs.Kept.{kept}

least_none : (ys : List ℕ) (e : ℕ) → least ys ≡ None → All (λ y. e ≤ y) ys
least_none [] e z = tt
least_none (y ∷ ys) e z = cc

pub least_all : (xs : List ℕ) (e : ℕ) → least xs ≡ Some e → All (λ x. e ≤ x) xs
least_all [] e h = tt
least_all (x ∷ xs) e h = go (λ d q. least_all xs d q) (least xs) refl
  where
    go : ((d : ℕ) → least xs ≡ Some d → All (λ y. d ≤ y) xs) → (o : Option ℕ) → least xs ≡ o → All (λ y. e ≤ y) (x ∷ xs)
    go rec None q = let k : Some (least_with x None) ≡ Some e = rw q at h in let i : x ≡ e = cc in (omega arith, least_none xs e q)
    go rec (Some d) q =
        let k : Some (least_with x (Some d)) ≡ Some e = rw q at h in
        let i : min x d ≡ e = cc in
        (omega arith, All-weaker _ _ (λ y l. omega arith) xs (rec d q))

pub least_has : (xs : List ℕ) (v : ℕ) → Has xs v → (b : ℕ) × (least xs ≡ Some b) × (b ≤ v)
least_has [] v h = absurd h
least_has (x ∷ xs) v h = let a = least_all (x ∷ xs) (least_with x (least xs)) refl in (least_with x (least xs), refl, All-has (λ y. least_with x (least xs) ≤ y) (x ∷ xs) v a h)

-- e is before each first post
Starts : Problem → ℕ → Type 0
Starts p e = (lun : ℕ) (x : LunState) (b : ℕ) → slice_get p.luns lun ≡ Some x → to_post p.timing (on_lun lun p.wants) x ≡ Some b → e ≤ may_go p lun + b

-- a first post that is listed
pub record IsFirstPost (p : Problem) (v : ℕ) : Type 0 where
  pub lun : ℕ
  pub state : LunState
  pub wait : ℕ
  pub at : slice_get p.luns lun ≡ Some state
  pub post : to_post p.timing (on_lun lun p.wants) state ≡ Some wait
  pub is : v ≡ may_go p lun + wait

in_starts : (p : Problem) (first i lun b : ℕ) (luns : List LunState) (x : LunState) → first + i ≡ lun → slice_get luns i ≡ Some x → to_post p.timing (on_lun lun p.wants) x ≡ Some b
    → Has (post_starts p first luns) (may_go p lun + b)
in_starts p first i lun b [] x e h k = cc
in_starts p first zero lun b (y ∷ luns) x e h k =
    let here : first ≡ lun = omega arith in
    let same : y ≡ x = cc in
    let k' : to_post p.timing (on_lun lun p.wants) y ≡ Some b = rw same k in
    rw (here, k') (inl refl)
in_starts p first (suc i) lun b (y ∷ luns) x e h k =
    Has-append_right (plus_each (may_go p first) (to_post p.timing (on_lun first p.wants) y)) (post_starts p (first + 1) luns) _ (in_starts p (first + 1) i lun b luns x (omega arith) h k)

pub starts_have : (p : Problem) (lun : ℕ) (x : LunState) (b : ℕ) → slice_get p.luns lun ≡ Some x → to_post p.timing (on_lun lun p.wants) x ≡ Some b → Has (post_starts p 0 p.luns) (may_go p lun + b)
starts_have p lun x b h k = in_starts p 0 lun lun b p.luns x (omega arith) h k

start_in : (p : Problem) (first v : ℕ) (luns : List LunState) → ((i lun : ℕ) (x : LunState) → first + i ≡ lun → slice_get luns i ≡ Some x → slice_get p.luns lun ≡ Some x)
    → Has (post_starts p first luns) v → IsFirstPost p v
start_in p first v [] h k = absurd k
start_in p first v (y ∷ luns) h k = elim (Has-append_cases (plus_each (may_go p first) (to_post p.timing (on_lun first p.wants) y)) (post_starts p (first + 1) luns) v k) [
  | inl a ↦ here (to_post p.timing (on_lun first p.wants) y) refl a
  | inr a ↦ start_in p (first + 1) v luns (λ i lun x e q. h (suc i) lun x (omega arith) q) a
]
  where
    here : (o : Option ℕ) → to_post p.timing (on_lun first p.wants) y ≡ o → Has (plus_each (may_go p first) o) v → IsFirstPost p v
    here None q a = absurd a
    here (Some b) q (inl e) = record { lun = first; state = y; wait = b; at = h 0 first y (omega arith) refl; post = q; is = sym e }
    here (Some b) q (inr a) = absurd a

pub start_of : (p : Problem) (v : ℕ) → Has (post_starts p 0 p.luns) v → IsFirstPost p v
start_of p v k = start_in p 0 v p.luns (λ i lun x e q. let z : i ≡ lun = omega arith in subst (λ j. slice_get p.luns j ≡ Some x) z q) k

-- the posts that are left, with this phase
posts_step : (p : Problem) (l : ℕ) (g : List Want) (n t : ℕ) (x : LunState) (wants : List Want) → slice_get p.luns l ≡ Some x → 1 ≤ length g → post_time p.timing x + total (want_post p.timing) p.wants ≡ posts_from (group_spans p.timing g) (length g) n + total (want_post p.timing) wants → all_posts p + posts_from (group_spans p.timing g) (length g) (n + 1) ≡ all_posts (ran_with p l g n t wants) + posts_from (group_spans p.timing g) (length g) n
posts_step p l g n t x wants at some h =
    let c = t + phase_length (group_spans p.timing g) (length g) n in
    let a = total_set (post_time p.timing) p.luns l x (lun_after p.timing g n c) at in
    let b = posts_after p.timing g n c some in
    omega arith

-- a command
command_starts : (p : Problem) (l : ℕ) (g : List Want) (n t e : ℕ) (x : LunState) (wants : List Want) → slice_get p.luns l ≡ Some x → 1 ≤ length g → n < length g → p.bus_free ≤ t → e ≤ t + (commands_left (length g) n * (group_spans p.timing g).cmd + waits_left (group_spans p.timing g) (length g) n) → ((lun : ℕ) → l ≢ lun → on_lun lun wants ≡ on_lun lun p.wants) → Starts p e → Starts (ran_with p l g n t wants) e
unfolding Starts
command_starts p l g n t e x wants at some h bus le same st lun y b k q =
    let spans = group_spans p.timing g in
    let c = t + phase_length spans (length g) n in
    elim (same_place l lun) [
      | inl i ↦ (
          let there = get_set_same p.luns l x (lun_after p.timing g n c) at in
          let run = lun_after_running p.timing g n c (omega arith) in
          let k' : slice_get (slice_set p.luns l (lun_after p.timing g n c)) l ≡ Some y = subst (λ j. slice_get (slice_set p.luns l (lun_after p.timing g n c)) j ≡ Some y) (sym i) k in
          let y' : Running g (n + 1) (c + wait_before spans (length g) (n + 1)) ≡ y = cc in
          let q' : Some (commands_left (length g) (n + 1) * spans.cmd + waits_left spans (length g) (n + 1)) ≡ Some b = rw (← y') at q in
          let b' : commands_left (length g) (n + 1) * spans.cmd + waits_left spans (length g) (n + 1) ≡ b = cc in
          let w = one_wait spans (length g) n in
          let o = one_less (length g) n spans.cmd h in
          let len : phase_length spans (length g) n ≡ spans.cmd = rw (lt-ltb n (length g) h) refl in
          rw (← i, there, run) (omega arith))
      | inr d ↦ (
          let there = get_set_other p.luns l lun (lun_after p.timing g n c) (λ i. d (sym i)) in
          let old = st lun y b (sym there ∙ k) (subst (λ ws. to_post p.timing ws y ≡ Some b) (same lun d) q) in
          rw there (omega arith))
    ]

-- a post: all starts are after it
post_starts_behind : (p : Problem) (e : ℕ) → e ≤ p.bus_free → Starts p e
unfolding Starts
post_starts_behind p e le lun x b h k = omega arith

record Led (p p' : Problem) (e : ℕ) : Type 0 where
  e' : ℕ
  starts : Starts p' e'
  posts : e + all_posts p ≤ e' + all_posts p'
  at_end : IsDone p' → e' ≤ p'.bus_free

lead_next : (p : Problem) (l : ℕ) (g : List Want) (n r t e : ℕ) → IsProblem p → slice_get p.luns l ≡ Some (Running g n r) → max p.bus_free r ≤ t → Starts p e → Led p (ran_with p l g n t p.wants) e
unfolding Starts
lead_next p l g n r t e ip at late st =
    let i = ip.running l g n r at in
    let k = length g in
    let spans = group_spans p.timing g in
    let x = Running g n r in
    let c = t + phase_length spans k n in
    let first : e ≤ max p.bus_free r + (commands_left k n * spans.cmd + waits_left spans k n) = rw at at (st l x _ at refl) in
    let posts = posts_step p l g n t x p.wants at i.group.some refl in
    elim (cases_lt n k) [
      | inl h ↦ (
          let same = posts_behind_command p.timing g n h in
          record {
            e' = e;
            starts = command_starts p l g n t e x p.wants at i.group.some h (omega arith) (omega arith) (λ lun d. refl) st;
            posts = omega arith;
            at_end = λ done. absurd (done.free l g (n + 1) _ (get_set_same p.luns l x (lun_after p.timing g n c) at ∙ ap Some (lun_after_running p.timing g n c (omega arith))));
          })
      | inr h ↦ (
          let none : k - n ≡ 0 = omega arith in
          let first' : e ≤ max p.bus_free r + (0 * spans.cmd + 0) = rw (none, le-ltb n k h) at first in
          let less = posts_behind_post p.timing g n h i.unfinished in
          record {
            e' = e + phase_length spans k n;
            starts = post_starts_behind (ran_with p l g n t p.wants) (e + phase_length spans k n) (omega arith);
            posts = omega arith;
            at_end = λ done. omega arith;
          })
    ]

pub some_member : (ms : List Want) → 1 ≤ length ms → (m : Want) × Has ms m
some_member [] h = absurd (omega arith)
some_member (m ∷ ms) h = (m, inl refl)

lead_start : (p : Problem) (ms : List Want) (since t e : ℕ) → IsProblem p → slice_get p.luns (lun_of ms) ≡ Some (Free since) → IsStartable p.rules p.wants ms → max p.bus_free since ≤ t → Starts p e → Led p (ran_with p (lun_of ms) ms 0 t (without ms p.wants)) e
unfolding Starts
lead_start p ms since t e ip at st late sts =
    let l = lun_of ms in
    let k = length ms in
    let some = st.group.some in
    let spans = group_spans p.timing ms in
    let c = t + phase_length spans k 0 in
    let m = some_member ms some in
    let operation = All-has _ ms m.0 st.group.operation m.1 in
    let there : Has (on_lun l p.wants) m.0 = Has-filter (λ w. w.lun == l) p.wants m.0 (All-has (Has p.wants) ms m.0 (startable_wanted p ms st) m.1) (eq-eqb m.0.lun l (All-has _ ms m.0 st.group.lun m.1)) in
    let b = least_has _ _ (Has-map (λ w. (spans_of p.timing w.kind).cmd + (spans_of p.timing w.kind).array) (on_lun l p.wants) m.0 there) in
    let first : e ≤ max p.bus_free since + b.0 = rw at at (sts l (Free since) b.0 at b.1) in
    let same = one_operation p.timing (kind_of ms) m.0.kind (sym operation) in
    let value : b.0 ≤ spans.cmd + spans.array = let low = b.2 in let c = same.cmd in let a = same.array in omega arith in
    let z : k - 0 ≡ k = omega arith in
    let times = times_left 1 k spans.cmd some in
    let waits : spans.array ≤ waits_left spans k 0 = rw (lt-ltb 0 k (omega arith)) (omega arith) in
    let wp = startable_total (want_post p.timing) p ms ip st in
    let mp = start_posts p.timing ms in
    let posts = posts_step p l ms 0 t (Free since) (without ms p.wants) at some (omega arith) in
    let same = posts_behind_command p.timing ms 0 (omega arith) in
    record {
      e' = e;
      starts = command_starts p l ms 0 t e (Free since) (without ms p.wants) at some (omega arith) (omega arith) (rw z (omega arith)) (λ lun d. on_lun_other ms p.wants lun (λ w h q. not_member p ip ms st w h (λ i. d (sym i ∙ q)))) sts;
      posts = omega arith;
      at_end = λ done. absurd (done.free l ms 1 _ (get_set_same p.luns l (Free since) (lun_after p.timing ms 0 c) at ∙ ap Some (lun_after_running p.timing ms 0 c (omega arith))));
    }

led : (p : Problem) (m : Move) (t e : ℕ) → IsProblem p → IsMove p m → earliest p m ≤ t → Starts p e → Led p (placed p m t) e
led p (Next l) t e ip (g, n, r, at) late st = let late' : max p.bus_free r ≤ t = rw at at late in rw at (lead_next p l g n r t e ip at late' st)
led p (Start ms) t e ip (since, at, sa) late st = let late' : max p.bus_free since ≤ t = rw at at late in lead_start p ms since t e ip at sa late' st

no_posts : (p : Problem) → IsDone p → all_posts p ≡ 0
no_posts p done = let w = done.wants in let a = free_total (post_time p.timing) (λ _. refl) p.luns done.free in rw w (omega arith)

lead_run : (steps : List Step) (p : Problem) (f e : ℕ) (s : Step) → IsProblem p → Starts p e → Run p (s ∷ steps) f → e + all_posts p ≤ f
lead_run [] p f e s ip st (mv, on_time, (done, q)) =
    let r = led p s.move s.start e ip mv on_time st in
    let a = r.posts in let b = r.at_end done in let c = no_posts (placed p s.move s.start) done in
    omega arith
lead_run (s' ∷ steps) p f e s ip st (mv, on_time, run) =
    let r = led p s.move s.start e ip mv on_time st in
    let a = r.posts in
    let b = lead_run steps (placed p s.move s.start) f r.e' s' (kept p s.move s.start ip mv) r.starts run in
    omega arith

bus_at : (steps : List Step) (p : Problem) (f : ℕ) → IsProblem p → Run p steps f → p.bus_free ≤ f
bus_at steps p f ip run = let b = bus_bound steps p f ip run in omega arith

-- nothing left has no first post
no_starts : (p : Problem) (first : ℕ) (luns : List LunState) → p.wants ≡ [] → ((l : ℕ) (g : List Want) (n r : ℕ) → slice_get luns l ≢ Some (Running g n r)) → post_starts p first luns ≡ []
no_starts p first [] w h = refl
no_starts p first (Free a ∷ luns) w h = rw w (no_starts p (first + 1) luns w (λ l. h (suc l)))
no_starts p first (Running g n r ∷ luns) w h = absurd (h 0 g n r refl)

pub lead_bound : (steps : List Step) (p : Problem) (f : ℕ) → IsProblem p → Run p steps f → lead p ≤ f
unfolding Starts
lead_bound [] p f ip (done, q) = let z = no_starts p 0 p.luns done.wants done.free in rw z (omega arith)
lead_bound (s ∷ steps) p f ip run = go (least (post_starts p 0 p.luns)) refl
  where
    go : (o : Option ℕ) → least (post_starts p 0 p.luns) ≡ o → lead p ≤ f
    go None q = rw q (bus_at (s ∷ steps) p f ip run)
    go (Some e) q = rw q (lead_run steps p f e s ip (λ lun x b h k. All-has (λ v. e ≤ v) (post_starts p 0 p.luns) (may_go p lun + b) (least_all _ e q) (starts_have p lun x b h k)) run)
