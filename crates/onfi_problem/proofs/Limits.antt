-- A move keeps a problem in its limits.
use Rattle.std.proofs.Common.{◌≡◌, ℕ, zero, suc, ◌+◌, ◌*◌, ◌-◌, ◌^◌, ◌≤◌, ◌<◌, List, [], ◌∷◌, length, map, Some, get_or, refl, sym, ap, ◌∙◌, subst, arith, mul-le-mul_left}
use Rattle.std.specs.Prelude.{slice_get, slice_set, max}
use Rattle.std.specs.List.{sum, AllByRecursion as All}
use Rattle.std.proofs.lemmas.Bool.{lt-ltb}
use Rattle.std.proofs.lemmas.List.Sums.{sum_by-cons}
use Rattle.onfi_timing.specs.declared.kind.Kind.{Kind}
use Rattle.onfi_timing.specs.Kinds.{operation_of}
use Rattle.onfi_timing.proofs.Shared.{one_operation}
use Rattle.onfi_timing.specs.declared.timing.Timing.{Timing}
use Rattle.onfi_request.specs.declared.want.Want.{Want}
use Rattle.onfi_problem.specs.declared.lun_state.LunState.{LunState}
use Rattle.onfi_problem.specs.declared.lun_state.LunState.TheVariants.{Free, Running}
use Rattle.onfi_problem.specs.Moves.{Move, Next, Start, IsMove, earliest, free_from, lun_after, after, ran_with}
use Rattle.onfi_problem.specs.Problem.{Problem, IsProblem}
use Rattle.onfi_timing.specs.Kinds.{spans_of}
use Rattle.onfi_group.specs.Group.{group_spans, kind_of, lun_of}
use Rattle.onfi_group.specs.Words.{total}
use Rattle.onfi_timing.specs.Phases.{Lengths, phase_length}
use Rattle.onfi_timing.proofs.Phases.{posts_of_all}
use Rattle.onfi_problem.specs.Left.{waits_left, chain_time, want_time, latest_wait, horizon, InLimits}
use Rattle.onfi_problem.proofs.Totals.{total_set, startable_total}
use Rattle.onfi_problem.proofs.Work.{one_phase}
use Rattle.onfi_problem.proofs.Waits.{one_wait, chain_after, free_after}
use Rattle.onfi_problem.proofs.Kept.{kept, kept_small}
use Rattle.std.proofs.lemmas.Option.{get_or_from_slice_get}

-- one LUN more to wait for
latest_with : (t : ℕ) (x : LunState) (luns : List LunState) → latest_wait t (x ∷ luns) ≡ max (free_from (Some x)) (latest_wait t luns)
latest_with t (Free a) luns = refl
latest_with t (Running g n r) luns = refl

bus_in : (b : ℕ) (luns : List LunState) → b ≤ latest_wait b luns
bus_in b [] = omega arith
bus_in b (x ∷ luns) = let e = bus_in b luns in let q = latest_with b x luns in omega arith

lun_in : (b : ℕ) (luns : List LunState) (l : ℕ) (x : LunState) → slice_get luns l ≡ Some x → free_from (Some x) ≤ latest_wait b luns
lun_in b [] l x h = cc
lun_in b (y ∷ luns) zero x h = let e : y ≡ x = cc in let q = latest_with b y luns in rw (← e) (omega arith)
lun_in b (y ∷ luns) (suc l) x h = let e = lun_in b luns l x h in let q = latest_with b y luns in omega arith

later_bus : (b c : ℕ) (luns : List LunState) → latest_wait c luns ≤ max c (latest_wait b luns)
later_bus b c [] = omega arith
later_bus b c (x ∷ luns) = let e = later_bus b c luns in let p = latest_with b x luns in let q = latest_with c x luns in omega arith

set_in : (b c : ℕ) (luns : List LunState) (l : ℕ) (y : LunState) → latest_wait c (slice_set luns l y) ≤ max c (max (latest_wait b luns) (free_from (Some y)))
set_in b c [] l y = omega arith
set_in b c (x ∷ luns) zero y = let e = later_bus b c luns in let p = latest_with b x luns in let q = latest_with c y luns in omega arith
set_in b c (x ∷ luns) (suc l) y = let e = set_in b c luns l y in let p = latest_with b x luns in let q = latest_with c x (slice_set luns l y) in omega arith

pub times_le : (j a b : ℕ) → a ≤ b → j * a ≤ j * b
times_le j a b h = mul-le-mul_left j h

pub group_waits : (spans : Lengths) (k : ℕ) → 1 ≤ k → waits_left spans k 0 ≤ k * max spans.gap spans.array
group_waits spans zero h = absurd (omega arith)
group_waits spans (suc j) h =
    let e : suc j - 1 - 0 ≡ j = omega arith in
    let a = times_le j spans.gap (max spans.gap spans.array) (omega arith) in
    rw (lt-ltb 0 (suc j) (omega arith), e) (omega arith)

-- wants of one operation take their commands, the longer of their waits, and the post of each
members_time : (timing : Timing) (kind : Kind) (ms : List Want) → All (λ m. operation_of m.kind ≡ operation_of kind) ms →
    total (want_time timing) ms ≡ length ms * ((spans_of timing kind).cmd + max (spans_of timing kind).gap (spans_of timing kind).array) + sum (map (λ m. (spans_of timing m.kind).post) ms)
members_time timing kind [] h = omega arith
members_time timing kind (m ∷ ms) h =
    let r = members_time timing kind ms h.1 in
    let q = sum_by-cons (λ x. x) (spans_of timing m.kind).post (map (λ m. (spans_of timing m.kind).post) ms) in
    let same = one_operation timing kind m.kind (sym h.0) in
    let a : (spans_of timing m.kind).cmd + max (spans_of timing m.kind).gap (spans_of timing m.kind).array ≡ (spans_of timing kind).cmd + max (spans_of timing kind).gap (spans_of timing kind).array = rw (same.cmd, same.gap, same.array) refl in
    omega arith

horizon_step : (p : Problem) (m : Move) → IsProblem p → IsMove p m → horizon (after p m) ≤ horizon p
horizon_step p (Next l) ip (g, n, r, at) =
    let i = ip.running l g n r at in
    let k = length g in
    let spans = group_spans p.timing g in
    let t = max p.bus_free r in
    let c = t + phase_length spans k n in
    let a = bus_in p.bus_free p.luns in
    let b : r ≤ latest_wait p.bus_free p.luns = lun_in p.bus_free p.luns l _ at in
    let d = set_in p.bus_free c p.luns l (lun_after p.timing g n c) in
    let f = free_after p.timing g n c i.group.some i.unfinished in
    let s = total_set (chain_time p.timing) p.luns l _ (lun_after p.timing g n c) at in
    let q = chain_after p.timing g n c i.group.some in
    let u = one_phase p.timing g n i.unfinished in
    let w = one_wait spans k n in
    rw at (omega arith)
horizon_step p (Start ms) ip (since, at, st) =
    let k = length ms in
    let some = st.group.some in
    let spans = group_spans p.timing ms in
    let t = max p.bus_free since in
    let c = t + phase_length spans k 0 in
    let a = bus_in p.bus_free p.luns in
    let b : since ≤ latest_wait p.bus_free p.luns = lun_in p.bus_free p.luns (lun_of ms) _ at in
    let d = set_in p.bus_free c p.luns (lun_of ms) (lun_after p.timing ms 0 c) in
    let f = free_after p.timing ms 0 c some (omega arith) in
    let s = total_set (chain_time p.timing) p.luns (lun_of ms) _ (lun_after p.timing ms 0 c) at in
    let q = chain_after p.timing ms 0 c some in
    let z : k - 0 ≡ k = omega arith in
    let u = rw z at (one_phase p.timing ms 0 (omega arith)) in
    let y = posts_of_all spans k 0 (omega arith) in
    let w = one_wait spans k 0 in
    let v = startable_total (want_time p.timing) p ms ip st in
    let o : total (want_time p.timing) ms ≡ k * (spans.cmd + max spans.gap spans.array) + sum spans.posts = members_time p.timing (kind_of ms) ms st.group.operation in
    let gw = group_waits spans k some in
    rw at (omega arith)

pub after_limits : (p : Problem) (m : Move) → InLimits p → IsMove p m → InLimits (after p m)
after_limits p m lim im = let h = horizon_step p m lim.problem im in let a = lim.horizon in record { small = kept_small p m (earliest p m) lim.small im; problem = kept p m (earliest p m) lim.problem im; horizon = omega arith }

pub bus_in_limits : (p : Problem) → InLimits p → p.bus_free < 2 ^ 62
bus_in_limits p lim = let h = lim.horizon in let b = bus_in p.bus_free p.luns in omega arith

-- and so are the times of its LUNs
pub lun_in_limits : (p : Problem) (l : ℕ) (x : LunState) → InLimits p → slice_get p.luns l ≡ Some x → free_from (Some x) < 2 ^ 62
lun_in_limits p l x lim at = let h = lim.horizon in let b = lun_in p.bus_free p.luns l x at in omega arith

-- what the code finds at a move
pub next_found : (p : Problem) (step : Move) (l : ℕ) (x : LunState) → IsMove p step → step ≡ Next l → x ≡ get_or p.luns l x → slice_get p.luns l ≡ Some x
next_found p step l x im e q =
    let mv : IsMove p (Next l) = subst (IsMove p) e im in
    let y = get_or_from_slice_get p.luns l _ x mv.3 in
    mv.3 ∙ ap Some (sym y ∙ sym q)

pub next_is : (p : Problem) (step : Move) (l : ℕ) (x : LunState) (g : List Want) (n r t : ℕ) (ws : List Want) → IsMove p step → step ≡ Next l → x ≡ get_or p.luns l x → x ≡ Running g n r → t ≡ max p.bus_free r → ws ≡ p.wants → after p step ≡ ran_with p l g n t ws
next_is p step l x g n r t ws im e q k a b =
    let at : slice_get p.luns l ≡ Some (Running g n r) = next_found p step l x im e q ∙ ap Some k in
    rw (e, a, b) (rw at refl)
