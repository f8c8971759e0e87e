-- The numbers of a move say what is asked before it.
use Rattle.std.proofs.Common.{◌≡◌, ℕ, zero, suc, ◌-◌, inl, inr, true, false, length, Option, Some, None, refl, subst, arith}
use Rattle.std.specs.Prelude.{◌==◌, nat_le, if◌then◌else◌}
use Rattle.std.proofs.lemmas.Bool.{cases_Bool}
use Rattle.onfi_problem.specs.Problem.{Problem}
use Rattle.onfi_problem.specs.Moves.{Move, move_lun, after}
use Rattle.onfi_demand.specs.Demand.{Demand, greatest, length_of, wait_of, through_bus, of_own}
use Rattle.onfi_demand.specs.Asked.{through_by, own_by, GoesOn, IsStep, StepLaw}
use Rattle.onfi_demand.specs.declared.asked.Step.{Step}

greatest_same : (n : ℕ) (f g : ℕ → ℕ) → ((i : ℕ) → f i ≡ g i) → greatest n f ≡ greatest n g
greatest_same zero f g h = refl
greatest_same (suc n) f g h = let a = h n in let b = greatest_same n f g h in omega arith

own_same : (p : Problem) (m : Move) (step : Step) (d : Demand) (go : Option ℕ) → IsStep p m step → GoesOn (after p m) (move_lun m) go → own_by step d go ≡ of_own p m d
own_same p m step d None is h = rw h refl
own_same p m step d (Some go) is (h, q) =
    let wait : go - (after p m).bus_free ≡ wait_of p m = omega arith in
    rw h (rw (is.lun, is.start, is.end, wait) refl)

pub step_asks : StepLaw
step_asks p m step d lun is =
    let own = own_same p m step d step.go is is.go in
    let through = greatest_same (length p.luns) (through_by step d) (through_bus p m d) (λ i. rw (is.lun, is.start, is.end) refl) in
    let long : step.end - step.start ≡ length_of p m = rw (is.start, is.end) refl in
    elim (cases_Bool (lun == step.lun)) [
      | inl k ↦ (
          let k' : (lun == move_lun m) ≡ true = subst (λ z. (lun == z) ≡ true) is.lun k in
          rw k (rw k' (omega arith)))
      | inr k ↦ (
          let k' : (lun == move_lun m) ≡ false = subst (λ z. (lun == z) ≡ false) is.lun k in
          rw k (rw k' (rw is.end refl)))
    ]

-- what is asked of a LUN that the move isn't of
abbrev pub behind : ℕ → ℕ → ℕ
behind end time = if nat_le time end then 0 else time
