-- The state of a LUN after a phase.
use Rattle.std.proofs.Common.{◌≡◌, ℕ, ◌+◌, ◌*◌, ◌≤◌, ◌<◌, inl, inr, List, length, Some}
use Rattle.std.proofs.lemmas.Bool.{lt-ltb, le-ltb, cases_lt}
use Rattle.onfi_timing.specs.declared.timing.Timing.{Timing}
use Rattle.onfi_timing.specs.Phases.{wait_before}
use Rattle.onfi_request.specs.declared.want.Want.{Want}
use Rattle.onfi_group.specs.Group.{group_spans}
use Rattle.onfi_problem.specs.declared.lun_state.LunState.TheVariants.{Free, Running}
use Rattle.onfi_problem.specs.Moves.{lun_after}

pub lun_after_running : (timing : Timing) (g : List Want) (n ended : ℕ) → n + 1 < 2 * length g → lun_after timing g n ended ≡ Running g (n + 1) (ended + wait_before (group_spans timing g) (length g) (n + 1))
lun_after_running timing g n ended h = rw (lt-ltb (n + 1) (2 * length g) h)

pub lun_after_free : (timing : Timing) (g : List Want) (n ended : ℕ) → 2 * length g ≤ n + 1 → lun_after timing g n ended ≡ Free ended
lun_after_free timing g n ended h = rw (le-ltb (n + 1) (2 * length g) h)

pub running_is : (timing : Timing) (g g' : List Want) (n ended n' r' : ℕ) → Some (lun_after timing g n ended) ≡ Some (Running g' n' r') → (g ≡ g') × (n + 1 ≡ n') × (ended + wait_before (group_spans timing g) (length g) (n + 1) ≡ r') × (n + 1 < 2 * length g)
running_is timing g g' n ended n' r' h =
    elim (cases_lt (n + 1) (2 * length g)) [
      | inl a ↦ (let k = lun_after_running timing g n ended a in (cc, cc, cc, a))
      | inr a ↦ (let k = lun_after_free timing g n ended a in cc)
    ]

pub free_is : (timing : Timing) (g : List Want) (n ended since : ℕ) → Some (lun_after timing g n ended) ≡ Some (Free since) → (ended ≡ since) × (2 * length g ≤ n + 1)
free_is timing g n ended since h =
    elim (cases_lt (n + 1) (2 * length g)) [
      | inl a ↦ (let k = lun_after_running timing g n ended a in cc)
      | inr a ↦ (let k = lun_after_free timing g n ended a in (cc, a))
    ]
