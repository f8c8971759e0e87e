-- A problem whose times are in the earlier half of the clock is done before its end.
use Rattle.std.proofs.Common.{◌≡◌, ℕ, zero, suc, ◌+◌, ◌*◌, ◌-◌, ◌^◌, ◌<◌, ◌≤◌, List, [], ◌∷◌, length, drop, inl, inr, refl, arith}
use Rattle.std.specs.Prelude.{◌==◌}
use Rattle.std.specs.List.{AllByRecursion as Each, sum}
use Rattle.std.proofs.Math.Nat.{mul-le-mul_right}
use Rattle.std.proofs.lemmas.Bool.{cases_Bool, lt-ltb, le-ltb, cases_lt}
use Rattle.std.proofs.lemmas.List.Sums.{sum_by-cons}
use Rattle.onfi_timing.specs.declared.spans.Spans.{Spans}
use Rattle.onfi_timing.specs.declared.timing.Timing.{Timing}
use Rattle.onfi_timing.specs.Kinds.{spans_of}
use Rattle.onfi_timing.specs.Phases.{Lengths, wait_before, posts_from}
use Rattle.onfi_request.specs.declared.want.Want.{Want}
use Rattle.onfi_group.specs.declared.rules.Rules.{Rules}
use Rattle.onfi_group.specs.Group.{group_spans, kind_of}
use Rattle.onfi_group.specs.Words.{total}
use Rattle.onfi_problem.specs.Checks.{AreLuns, IsLun, time_of}
use Rattle.onfi_problem.specs.declared.lun_state.LunState.{LunState}
use Rattle.onfi_problem.specs.declared.lun_state.LunState.TheVariants.{Free, Running}
use Rattle.onfi_problem.specs.Left.{chain_time, horizon, latest_wait, waits_left, want_time}
use Rattle.onfi_problem.specs.Problem.{Problem, IsProblem, IsSmall}
use Rattle.onfi_problem.proofs.Sums.{luns_of}

pub wait_short : (timing : Timing) (group : List Want) (n : ℕ) → wait_before (group_spans timing group) (length group) n < 2 ^ 50
wait_short timing group n =
    let s = (spans_of timing (kind_of group)).in_range in
    elim (cases_lt n (length group)) [
      | inl less ↦ rw (lt-ltb n (length group) less) s.gap_short
      | inr more ↦ rw (le-ltb n (length group) more) (elim (cases_Bool (n == length group)) [ inl same ↦ rw same s.array_short | inr other ↦ rw other (omega arith) ])
    ]

-- some of the members' posts
posts_short : (timing : Timing) (group : List Want) (i : ℕ) → sum (drop i (group_spans timing group).posts) ≤ length group * 2 ^ 50
posts_short timing [] zero = omega arith
posts_short timing [] (suc i) = omega arith
posts_short timing (m ∷ ms) zero =
    let more = posts_short timing ms 0 in
    let all = sum_by-cons (λ x. x) (spans_of timing m.kind).post (group_spans timing ms).posts in
    let one = (spans_of timing m.kind).in_range.post_short in
    omega (arith, more, all, one)
posts_short timing (m ∷ ms) (suc i) = let more = posts_short timing ms i in omega (arith, more)

-- the commands, the posts and the waits that are left of at most four members
chain_small : (k n posts : ℕ) (spans : Spans) (lengths : Lengths) → k ≤ 4 → posts ≤ 4 * 2 ^ 50 → lengths.gap ≡ spans.gap → lengths.array ≡ spans.array
    → (k - n) * spans.cmd + posts + waits_left lengths k n ≤ 12 * 2 ^ 50
chain_small k n posts spans lengths few short gaps arrays =
    let commands : k - n ≤ 4 = omega (arith, few) in
    let c = mul-le-mul_right spans.cmd commands in
    let cs = spans.in_range.cmd_short in
    let gs = spans.in_range.gap_short in
    let as' = spans.in_range.array_short in
    elim (cases_lt n k) [
      | inl more ↦ (
          let some : k - 1 - n ≤ 3 = omega (arith, few) in
          let g = mul-le-mul_right lengths.gap some in
          rw (lt-ltb n k more) (omega (arith, c, short, g, cs, gs, as', gaps, arrays)))
      | inr none ↦ rw (le-ltb n k none) (omega (arith, c, short, cs))
    ]

chain_short : (timing : Timing) (rules : Rules) (at : ℕ) (x : LunState) → IsLun rules at x → chain_time timing x ≤ 12 * 2 ^ 50
chain_short timing rules at (Free since) is = omega arith
chain_short timing rules at (Running group next ready) is =
    let lengths = group_spans timing group in
    let few = is.group.few in
    let posts = posts_short timing group (next - length group) in
    chain_small (length group) next (posts_from lengths (length group) next) (spans_of timing (kind_of group)) lengths few (omega (arith, posts, few)) refl refl

want_short : (timing : Timing) (w : Want) → want_time timing w ≤ 3 * 2 ^ 50
want_short timing w =
    let s = (spans_of timing w.kind).in_range in
    let a = s.cmd_short in
    let b = s.gap_short in
    let c = s.array_short in
    let d = s.post_short in
    omega (arith, a, b, c, d)

chains_short : (timing : Timing) (rules : Rules) (at : ℕ) (luns : List LunState) → AreLuns rules at luns → total (chain_time timing) luns ≤ length luns * (12 * 2 ^ 50)
chains_short timing rules at [] are = omega arith
chains_short timing rules at (x ∷ luns) are =
    let one = chain_short timing rules at x are.0 in
    let more = chains_short timing rules (at + 1) luns are.1 in
    omega (arith, one, more)

wants_short : (timing : Timing) (wants : List Want) → total (want_time timing) wants ≤ length wants * (3 * 2 ^ 50)
wants_short timing [] = omega arith
wants_short timing (w ∷ wants) = let one = want_short timing w in let more = wants_short timing wants in omega (arith, one, more)

latest_early : (t bus_free : ℕ) (luns : List LunState) → bus_free < t → Each (λ x. time_of x < t) luns → latest_wait bus_free luns < t
latest_early t bus_free [] bus early = bus
latest_early t bus_free (Free since ∷ luns) bus early = let one = early.0 in let more = latest_early t bus_free luns bus early.1 in omega (arith, one, more)
latest_early t bus_free (Running g n r ∷ luns) bus early = let one = early.0 in let more = latest_early t bus_free luns bus early.1 in omega (arith, one, more)

-- .. by then and 2^57 ns
pub horizon_early : (p : Problem) (t : ℕ) → IsSmall p → IsProblem p → p.bus_free < t → Each (λ x. time_of x < t) p.luns → horizon p < t + 2 ^ 57
horizon_early p t small is bus early =
    let latest = latest_early t p.bus_free p.luns bus early in
    let chains = chains_short p.timing p.rules 0 p.luns (luns_of p.rules p.luns is.running) in
    let wants = wants_short p.timing p.wants in
    let few_luns = small.few_luns in
    let few_wants = small.wants in
    omega (arith, latest, chains, wants, few_luns, few_wants)
