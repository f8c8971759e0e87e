-- The bus or the lead bound as the first that reaches a number.
use Rattle.std.proofs.Common.{◌≡◌, ℕ, ◌≤◌, ◌<◌, arith}
use Rattle.onfi_problem.specs.Problem.{Problem}
use Rattle.onfi_bound.specs.declared.bound.Bound.{Bound}
use Rattle.onfi_bound.specs.declared.bound.Bound.TheVariants.{Bus, Lead, Trail, Die}
use Rattle.onfi_bound.specs.Bounds.{bus, lead}
use Rattle.onfi_bound.specs.Reaching.{Reaches, place_of, IsFirst}

pub first_bus : (p : Problem) (e n : ℕ) → n ≡ bus p → e ≤ n → IsFirst p e Bus
first_bus p e n is h = record { reaches = omega arith; none_before = λ b k. absurd (omega arith) }

pub first_lead : (p : Problem) (e n m : ℕ) → n ≡ bus p → n < e → m ≡ lead p → e ≤ m → IsFirst p e Lead
first_lead p e n m is h is' h' = record { reaches = omega arith; none_before = before }
  where
    before : (b : Bound) → place_of b < 1 → Reaches p e b → ⊥
    before Bus k r = omega arith
    before Lead k r = omega arith
    before Trail k r = omega arith
    before (Die lun) k r = omega arith
