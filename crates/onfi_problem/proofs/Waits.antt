-- Chains of phases with their waits.
use Rattle.std.proofs.Common.{◌≡◌, ◌≢◌, ℕ, suc, ◌+◌, ◌*◌, ◌-◌, ◌≤◌, ◌<◌, inl, inr, List, length, Some, refl, arith}
use Rattle.std.proofs.lemmas.Bool.{cases_lt, cases_eq, lt-ltb, le-ltb, eq-eqb, ne_eqb}
use Rattle.onfi_timing.specs.declared.timing.Timing.{Timing}
use Rattle.onfi_request.specs.declared.want.Want.{Want}
use Rattle.onfi_group.specs.Group.{group_spans}
use Rattle.onfi_group.proofs.PhaseLengths.{posts_length}
use Rattle.onfi_timing.specs.Phases.{Lengths, wait_before, posts_from}
use Rattle.onfi_timing.proofs.Phases.{posts_past_all}
use Rattle.onfi_problem.specs.Moves.{free_from, lun_after}
use Rattle.onfi_problem.specs.Left.{commands_left, waits_left, chain_time}
use Rattle.onfi_problem.proofs.LunAfter.{lun_after_running, lun_after_free}

-- the wait after a phase, and the later ones
pub one_wait : (lengths : Lengths) (k n : ℕ) → waits_left lengths k n ≡ wait_before lengths k (n + 1) + waits_left lengths k (n + 1)
one_wait lengths k n =
    elim (cases_lt (n + 1) k) [
      | inl a ↦ (
          let b : n < k = omega arith in
          let e : k - 1 - n ≡ suc (k - 1 - (n + 1)) = omega arith in
          rw (lt-ltb n k b, lt-ltb (n + 1) k a, e) (omega arith))
      | inr a ↦ elim (cases_eq (n + 1) k) [
        | inl q ↦ (
            let b : n < k = omega arith in
            let e : k - 1 - n ≡ 0 = omega arith in
            rw (lt-ltb n k b, le-ltb (n + 1) k a, eq-eqb (n + 1) k q, e) (omega arith))
        | inr d ↦ (
            let b : k ≤ n = omega arith in
            rw (le-ltb n k b, le-ltb (n + 1) k a, ne_eqb (n + 1) k d) refl)
      ]
    ]

no_waits : (lengths : Lengths) (k n : ℕ) → k ≤ n → waits_left lengths k n ≡ 0
no_waits lengths k n h = rw (le-ltb n k h)

-- what is left after a phase
pub chain_after : (timing : Timing) (g : List Want) (n c : ℕ) → 1 ≤ length g → chain_time timing (lun_after timing g n c) ≡ commands_left (length g) (n + 1) * (group_spans timing g).cmd + posts_from (group_spans timing g) (length g) (n + 1) + waits_left (group_spans timing g) (length g) (n + 1)
chain_after timing g n c some =
    elim (cases_lt (n + 1) (2 * length g)) [
      | inl a ↦ rw (lun_after_running timing g n c a) refl
      | inr a ↦ (
          let e : length g - (n + 1) ≡ 0 = omega arith in
          let l = posts_length timing g in
          let q = posts_past_all (group_spans timing g) (length g) (n + 1) (omega arith) in
          rw (lun_after_free timing g n c a) (rw (e, q, no_waits (group_spans timing g) (length g) (n + 1) (omega arith)) (omega arith)))
    ]

-- when the LUN may go on after a phase
pub free_after : (timing : Timing) (g : List Want) (n c : ℕ) → 1 ≤ length g → n < 2 * length g → free_from (Some (lun_after timing g n c)) ≡ c + wait_before (group_spans timing g) (length g) (n + 1)
free_after timing g n c some h =
    elim (cases_lt (n + 1) (2 * length g)) [
      | inl a ↦ rw (lun_after_running timing g n c a) refl
      | inr a ↦ (
          let b : length g ≤ n + 1 = omega arith in
          let d : n + 1 ≢ length g = λ e. omega arith in
          rw (lun_after_free timing g n c a) (rw (le-ltb (n + 1) (length g) b, ne_eqb (n + 1) (length g) d) (omega arith)))
    ]
