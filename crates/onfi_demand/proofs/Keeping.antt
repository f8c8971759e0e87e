-- What holds of a demand holds of its numbers.
use Rattle.std.proofs.Common.{◌≡◌, ℕ, ◌<◌, length, ap, arith}
use Rattle.std.specs.Prelude.{true}
use Rattle.onfi_problem.specs.Problem.{Problem, IsProblem, IsSmall}
use Rattle.onfi_demand.specs.Left.{SameLeft, has_left}
use Rattle.onfi_demand.specs.Kept.{KeptLaw}
use Rattle.onfi_demand.proofs.Opened.{left_there}
use Rattle.onfi_demand.proofs.Alike.{same_luns}

pub small_same : (p q : Problem) → SameLeft p q → IsSmall p → IsSmall q
small_same p q s small =
    let luns = same_luns p q s in
    let wants = ap (λ ws. length ws) s.wants in
    record { wants = omega arith; some_luns = omega arith; few_luns = omega arith }

-- a LUN with something left is one of eight
pub left_few : (p : Problem) (l : ℕ) → IsProblem p → IsSmall p → has_left p l ≡ true → l < 8
left_few p l ip small h = let a = left_there p l ip h in let b = small.few_luns in omega arith

pub kept_asks : KeptLaw
kept_asks p e kept d ip small is asks = record {
  holds = λ q s iq m. asks.holds q s iq (record {
    bus = let a = m.bus in let b = is.bus in omega arith;
    luns = λ l h. let a = m.luns l h in let b = is.luns l (left_few q l iq (small_same p q s small) h) in omega arith;
  });
  meets = record {
    bus = let a = asks.meets.bus in let b = is.bus in omega arith;
    luns = λ l h. let a = asks.meets.luns l h in let b = is.luns l (left_few p l ip small h) in omega arith;
  };
}
