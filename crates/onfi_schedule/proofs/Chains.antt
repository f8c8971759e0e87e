-- The phases of one group.
use Rattle.std.proofs.Common.{◌≡◌, ℕ, ◌+◌, ◌≤◌, inl, inr, ◌*◌, List, [], ◌∷◌, length, sym, ap, arith}
use Rattle.std.specs.List.{AllByRecursion as All}
use Rattle.onfi_timing.specs.declared.timing.Timing.{Timing}
use Rattle.onfi_request.specs.declared.want.Want.{Want}
use Rattle.onfi_group.specs.Words.{Has}
use Rattle.onfi_group.specs.Group.{group_spans}
use Rattle.onfi_group.proofs.PhaseLengths.{phase_some}
use Rattle.onfi_timing.specs.Phases.{Lengths, phase_length, wait_before}
use Rattle.onfi_schedule.specs.Schedule.{Phase, phases_from, InOrder}
use Rattle.onfi_problem.proofs.Perm.{All-weaker, All-has}

-- each phase of a group takes some time
pub all_long : (lun : ℕ) (timing : Timing) (g : List Want) (n : ℕ) (ts : List ℕ) → n + length ts ≤ 2 * length g → All (λ x. 1 ≤ x.length) (phases_from lun (group_spans timing g) (length g) n ts)
all_long lun timing g n [] h = tt
all_long lun timing g n (t ∷ ts) h = (phase_some timing g n (omega arith), all_long lun timing g (n + 1) ts (omega arith))

-- each phase starts at the floor or later
pub from_floor : (lun : ℕ) (spans : Lengths) (k n floor : ℕ) (ts : List ℕ) → InOrder spans k n floor ts → All (λ x. floor ≤ x.start) (phases_from lun spans k n ts)
from_floor lun spans k n floor [] h = tt
from_floor lun spans k n floor (t ∷ ts) h =
    (h.0, All-weaker (λ x. t + phase_length spans k n + wait_before spans k (n + 1) ≤ x.start) (λ x. floor ≤ x.start) (λ x g. omega arith) (phases_from lun spans k (n + 1) ts) (from_floor lun spans k (n + 1) _ ts h.1))

pub lower_floor : (spans : Lengths) (k n low high : ℕ) (ts : List ℕ) → low ≤ high → InOrder spans k n high ts → InOrder spans k n low ts
lower_floor spans k n low high [] l h = tt
lower_floor spans k n low high (t ∷ ts) l h = (omega (arith, h.0), h.1)

-- the phase of least start in a group is its first
pub is_head : (lun : ℕ) (spans : Lengths) (k n floor t : ℕ) (ts : List ℕ) (x : Phase) → 1 ≤ phase_length spans k n → InOrder spans k n floor (t ∷ ts) → Has (phases_from lun spans k n (t ∷ ts)) x → x.start ≤ t → x.start ≡ t
is_head lun spans k n floor t ts x some h (inl e) le = ap (λ y. y.start) (sym e)
is_head lun spans k n floor t ts x some h (inr i) le =
    let later : t + phase_length spans k n + wait_before spans k (n + 1) ≤ x.start = All-has (λ y. t + phase_length spans k n + wait_before spans k (n + 1) ≤ y.start) (phases_from lun spans k (n + 1) ts) x (from_floor lun spans k (n + 1) _ ts h.1) i in
    absurd (omega arith)
