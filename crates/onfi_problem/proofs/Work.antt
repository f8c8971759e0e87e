-- What a phase takes from what is left.
use Rattle.std.proofs.Common.{◌≡◌, ℕ, suc, ◌+◌, ◌*◌, ◌-◌, ◌≤◌, ◌<◌, inl, inr, List, length, refl, sym, arith}
use Rattle.std.proofs.lemmas.Bool.{cases_lt}
use Rattle.onfi_timing.specs.declared.timing.Timing.{Timing}
use Rattle.onfi_timing.specs.Phases.{phase_length, posts_from}
use Rattle.onfi_timing.proofs.Phases.{command_length, posts_past_all}
use Rattle.onfi_request.specs.declared.want.Want.{Want}
use Rattle.onfi_group.specs.Group.{group_spans}
use Rattle.onfi_group.proofs.PhaseLengths.{posts_length, posts_behind_command, posts_behind_post}
use Rattle.onfi_problem.specs.Moves.{lun_after}
use Rattle.onfi_problem.specs.Left.{commands_left, command_time, post_time}
use Rattle.onfi_problem.proofs.LunAfter.{lun_after_running, lun_after_free}

pub one_less : (k n c : ℕ) → n < k → (k - n) * c ≡ c + (k - (n + 1)) * c
one_less k n c h = let e : k - n ≡ suc (k - (n + 1)) = omega arith in rw e (omega arith)

-- what the phase leaves
pub commands_after : (timing : Timing) (g : List Want) (n c : ℕ) → 1 ≤ length g → command_time timing (lun_after timing g n c) ≡ commands_left (length g) (n + 1) * (group_spans timing g).cmd
commands_after timing g n c some =
    elim (cases_lt (n + 1) (2 * length g)) [
      | inl a ↦ rw (lun_after_running timing g n c a) refl
      | inr a ↦ (let e : length g - (n + 1) ≡ 0 = omega arith in rw (lun_after_free timing g n c a) (rw e (omega arith)))
    ]

pub posts_after : (timing : Timing) (g : List Want) (n c : ℕ) → 1 ≤ length g → post_time timing (lun_after timing g n c) ≡ posts_from (group_spans timing g) (length g) (n + 1)
posts_after timing g n c some =
    elim (cases_lt (n + 1) (2 * length g)) [
      | inl a ↦ rw (lun_after_running timing g n c a) refl
      | inr a ↦ (
          let l = posts_length timing g in
          let e = posts_past_all (group_spans timing g) (length g) (n + 1) (omega arith) in
          rw (lun_after_free timing g n c a) (sym e))
    ]

-- a phase and what it leaves are what there was
pub one_phase : (timing : Timing) (g : List Want) (n : ℕ) → n < 2 * length g →
    commands_left (length g) n * (group_spans timing g).cmd + posts_from (group_spans timing g) (length g) n
    ≡ phase_length (group_spans timing g) (length g) n + (commands_left (length g) (n + 1) * (group_spans timing g).cmd + posts_from (group_spans timing g) (length g) (n + 1))
one_phase timing g n h =
    elim (cases_lt n (length g)) [
      | inl a ↦ (
          let e = one_less (length g) n (group_spans timing g).cmd a in
          let c = command_length (group_spans timing g) (length g) n a in
          let p = posts_behind_command timing g n a in
          omega arith)
      | inr a ↦ (
          let e : length g - n ≡ 0 = omega arith in
          let e' : length g - (n + 1) ≡ 0 = omega arith in
          let p = posts_behind_post timing g n a h in
          rw (e, e') (omega arith))
    ]
