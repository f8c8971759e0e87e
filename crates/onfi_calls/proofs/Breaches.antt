-- What a breach says fits a plain struct.
use Rattle.std.proofs.Common.{◌≡◌, ◌≤◌, ℕ, refl, length, arith}
use Rattle.onfi_problem.specs.Problem.{Problem}
use Rattle.onfi_schedule.specs.Schedule.{Schedule}
use Rattle.onfi_schedule.specs.Tells.{Tells}
use Rattle.onfi_schedule.specs.declared.breach.Breach.{Breach}
use Rattle.onfi_schedule.specs.declared.breach.Breach.TheVariants.{ForeignLun, MissingLun, BusNotFree, NotReady, WaitTooShort, RunningGroupLeft, LunNotFree}
use Rattle.onfi_schedule.specs.declared.phase_name.PhaseName.{PhaseName}
use Rattle.onfi_calls.specs.Broken.{IsNear, in_the_way, timed, waited}

-- a LUN that isn't there, or is left out, has a number of one byte
pub near : (p : Problem) (s : Schedule) (b : Breach) → length p.luns ≤ 8 → Tells p s b → IsNear b
near p s (ForeignLun last) few (is, _) = omega (arith, few, is)
near p s (MissingLun lun) few (is, less) = omega (arith, few, is, less)
near p s _ few told = tt

-- what is none of these conditions of times is said as what is left of them says it
pub timed_as_left : (b : Breach) → ((x : PhaseName) (y z : ℕ) → b ≡ BusNotFree x y z → ⊥) → ((x : PhaseName) (y z w : ℕ) → b ≡ NotReady x y z w → ⊥)
    → ((x : PhaseName) (y z w : ℕ) → b ≡ RunningGroupLeft x y z w → ⊥) → ((x : PhaseName) (y z w : ℕ) → b ≡ LunNotFree x y z w → ⊥) → timed b ≡ in_the_way b
timed_as_left (BusNotFree x y z) bus ready left free = absurd (bus x y z refl)
timed_as_left (NotReady x y z w) bus ready left free = absurd (ready x y z w refl)
timed_as_left (RunningGroupLeft x y z w) bus ready left free = absurd (left x y z w refl)
timed_as_left (LunNotFree x y z w) bus ready left free = absurd (free x y z w refl)
timed_as_left _ bus ready left free = refl

pub waited_as_left : (b : Breach) → ((x y : PhaseName) (z w v : ℕ) → b ≡ WaitTooShort x y z w v → ⊥) → waited b ≡ timed b
waited_as_left (WaitTooShort x y z w v) short = absurd (short x y z w v refl)
waited_as_left _ short = refl
