-- The demand of the lead bound, as it is worked out.
use Rattle.std.proofs.Common.{◌≡◌, ℕ, ◌+◌, ◌*◌, ◌-◌, ◌≤◌, ◌<◌, inl, inr, Bool, true, false, List, [], ◌∷◌, length, map, get_or, take, Option, Some, refl, sym, ap, ◌∙◌, subst, arith}
use Rattle.std.specs.Prelude.{slice_get, IfSome}
use Rattle.std.specs.Option.{option_map}
use Rattle.std.proofs.lemmas.Bool.{cases_lt, false≢true}
use Rattle.std.proofs.lemmas.Option.{get_or_from_slice_get, slice_get_past}
use Rattle.onfi_timing.specs.declared.timing.Timing.{Timing}
use Rattle.onfi_timing.specs.declared.operation.Operation.{Operation}
use Rattle.onfi_timing.specs.Kinds.{operation_spans, spans_of}
use Rattle.onfi_request.specs.declared.want.Want.{Want}
use Rattle.onfi_group.specs.Words.{Has, total}
use Rattle.onfi_problem.specs.declared.lun_state.LunState.{LunState}
use Rattle.onfi_problem.specs.declared.lun_state.LunState.TheVariants.{Free, Running}
use Rattle.onfi_problem.specs.Left.{commands_left, waits_left, post_time, want_post, all_posts}
use Rattle.onfi_problem.specs.Position.{waiting_of}
use Rattle.onfi_problem.specs.Problem.{Problem, IsProblem}
use Rattle.onfi_problem.proofs.Places.{get_within, within_get}
use Rattle.onfi_bound.specs.Bounds.{on_lun, least, to_post, post_starts}
use Rattle.onfi_bound.proofs.LeadBound.{least_has, starts_have, start_of}
pub use Rattle.onfi_demand.proofs.Bounding.{some_state, post_has}
use Rattle.onfi_bound.proofs.Steps.{waiting_yes, waiting_no, summed}
use Rattle.onfi_demand.specs.Left.{Idle, left_on, has_left, has_left_at}
use Rattle.onfi_demand.specs.Demand.{before_post, lead_at, lead_demand, of_bus}
use Rattle.onfi_demand.specs.Kept.{IsKept}
use Rattle.onfi_demand.specs.Remaining.{posts_count, posts_rest, with_posts}
use Rattle.onfi_demand.specs.Work.{left_of, IsWork}
use Rattle.onfi_demand.proofs.Agreeing.{RunsAlike, runs_alike_at}
use Rattle.onfi_demand.proofs.Sums.{post_by, post_rest}
use Rattle.onfi_demand.specs.declared.demand.Demand.{Demand as Kept}
use Rattle.onfi_demand.specs.declared.left.LunLeft.{LunLeft as KeptLeft}
use Rattle.onfi_demand.specs.declared.left.LunLeft.TheVariants.{Idle as KeptIdle, Rest as KeptRest}
use Rattle.onfi_demand.specs.declared.left.LunWork.{LunWork}
use Rattle.onfi_problem.proofs.Wants.{total-append}

pub posts_yes : (timing : Timing) (marks : List Bool) (ws : List Want) (i : ℕ) (d : Want) (sum : ℕ) → i < length ws → get_or marks i false ≡ true → sum ≡ total (want_post timing) (waiting_of marks (take i ws)) → sum + (spans_of timing (get_or ws i d).kind).post ≡ total (want_post timing) (waiting_of marks (take (i + 1) ws))
posts_yes timing marks ws i d sum h m e = rw (waiting_yes marks ws i d h m) (let a = total-append (want_post timing) (waiting_of marks (take i ws)) (get_or ws i d ∷ []) in omega arith)

pub posts_no : (timing : Timing) (marks : List Bool) (ws : List Want) (i sum : ℕ) → get_or marks i false ≡ false → sum ≡ total (want_post timing) (waiting_of marks (take i ws)) → sum ≡ total (want_post timing) (waiting_of marks (take (i + 1) ws))
posts_no timing marks ws i sum m e = e ∙ sym (ap (total (want_post timing)) (waiting_no marks ws i m))

-- one running group more
pub rest_more : (p : Problem) (timing : Timing) (i sum next : ℕ) (left : KeptLeft) → IsProblem p → timing ≡ p.timing → i < length p.luns → option_map left_on (slice_get p.luns i) ≡ Some (left_of left) → next ≡ posts_rest timing (left_of left) → sum ≡ total (post_time p.timing) (take i p.luns) → sum + next ≡ total (post_time p.timing) (take (i + 1) p.luns)
rest_more p timing i sum next left ip t h l is e =
    let x = some_state (slice_get p.luns i) (left_of left) l in
    let own = subst (λ o. IfSome o RunsAlike) x.1 (runs_alike_at p i ip) in
    let v : next ≡ post_time p.timing x.0 = is ∙ (ap (λ z. posts_rest z (left_of left)) t ∙ (ap (posts_rest p.timing) (sym x.2) ∙ sym (post_by p.timing x.0 own))) in
    let g = get_or_from_slice_get p.luns i x.0 (Free 0) x.1 in
    let q : next ≡ post_time p.timing (get_or p.luns i (Free 0)) = v ∙ rw g refl in
    summed (post_time p.timing) p.luns i (Free 0) 0 sum (sum + next) h (omega arith) (omega arith) ∙ (omega arith)

pub idle_time : (p : Problem) (lun e left n : ℕ) (timing : Timing) (work : LunWork) (o : Option ℕ) (ws : List Want) → IsWork p lun work → work.left ≡ KeptIdle → timing ≡ p.timing → left ≡ e - all_posts p → ws ≡ work.wants.items → o ≡ least (map (λ w. (spans_of timing w.kind).cmd + (spans_of timing w.kind).array) ws) → n ≡ before_post left o → n ≡ lead_at p e (on_lun lun p.wants) (slice_get p.luns lun)
idle_time p lun e left n timing work o ws w idle t l v f is =
    let x = some_state (slice_get p.luns lun) (left_of work.left) w.left in
    go x.0 x.1 (x.2 ∙ ap left_of idle)
  where
    go : (y : LunState) → slice_get p.luns lun ≡ Some y → left_on y ≡ Idle → n ≡ lead_at p e (on_lun lun p.wants) (slice_get p.luns lun)
    go (Free a) at q = rw at (is ∙ rw (l, f, v, w.wants, t) refl)
    go (Running g k r) at q = cc

pub rest_time : (p : Problem) (lun e left n rest k i : ℕ) (operation : Operation) (sectors : List ℕ) (timing : Timing) (work : LunWork) → IsWork p lun work → work.left ≡ KeptRest operation k i sectors → timing ≡ p.timing → left ≡ e - all_posts p → rest ≡ commands_left k i * (operation_spans timing operation).cmd + waits_left (with_posts (operation_spans timing operation) []) k i → n ≡ left - rest → n ≡ lead_at p e (on_lun lun p.wants) (slice_get p.luns lun)
rest_time p lun e left n rest k i operation sectors timing work w runs t l r is =
    let x = some_state (slice_get p.luns lun) (left_of work.left) w.left in
    let post = post_rest p.timing (on_lun lun p.wants) x.0 operation k i (take (posts_count k i) sectors) (x.2 ∙ ap left_of runs) in
    let r' = r ∙ ap (λ z. commands_left k i * (operation_spans z operation).cmd + waits_left (with_posts (operation_spans z operation) []) k i) t in
    rw (x.1, post) (is ∙ rw (l, r') refl)

-- a first post is there exactly where something is left
post_left : (timing : Timing) (ws : List Want) (x : LunState) → has_left_at ws (Some x) ≡ true → (b : ℕ) × (to_post timing ws x ≡ Some b)
post_left timing ws (Running g n r) h = (_, refl)
post_left timing [] (Free a) h = cc
post_left timing (w ∷ ws) (Free a) h = (_, refl)

none_listed : (xs : List ℕ) → ((v : ℕ) → Has xs v → ⊥) → xs ≡ []
none_listed [] h = refl
none_listed (x ∷ xs) h = absurd (h x (inl refl))

-- the numbers of the LUNs, where something is left on some
pub lead_kept : (p : Problem) (e k : ℕ) (d : Kept) (luns : List ℕ) → k < length p.luns → has_left p k ≡ true → d.bus ≡ 0 → d.luns ≡ luns → ((l : ℕ) → l < length p.luns → get_or luns l 0 ≡ lead_at p e (on_lun l p.wants) (slice_get p.luns l)) → ((l : ℕ) → length p.luns ≤ l → get_or luns l 0 ≡ 0) → IsKept d (lead_demand p e)
lead_kept p e k d luns within h bus same value rest =
    let x = get_within p.luns k within in
    let b = post_left p.timing (on_lun k p.wants) x.0 (subst (λ o. has_left_at (on_lun k p.wants) o ≡ true) x.1 h) in
    let v = least_has (post_starts p 0 p.luns) _ (starts_have p k x.0 b.0 x.1 b.1) in
    rw v.1 (record { bus = bus; luns = λ l small. rw same (at l) })
  where
    at : (l : ℕ) → get_or luns l 0 ≡ lead_at p e (on_lun l p.wants) (slice_get p.luns l)
    at l = elim (cases_lt l (length p.luns)) [ inl h ↦ value l h | inr h ↦ rest l h ∙ rw (slice_get_past p.luns l h) refl ]

pub lead_idle : (p : Problem) (e : ℕ) (d : Kept) → IsKept d (of_bus e) → ((l : ℕ) → l < length p.luns → has_left p l ≡ false) → IsKept d (lead_demand p e)
lead_idle p e d kept h =
    let none = none_listed (post_starts p 0 p.luns) (λ v k.
    let t = start_of p v k in
    let left = subst (λ o. has_left_at (on_lun t.lun p.wants) o ≡ false) t.at (h t.lun (within_get p.luns t.lun t.state t.at)) in
    false≢true (sym left ∙ post_has p.timing (on_lun t.lun p.wants) t.state t.wait t.post)) in
    rw none kept
