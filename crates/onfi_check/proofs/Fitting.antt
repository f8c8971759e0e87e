-- Whether the moves of a LUN fit before a time, given by when they end.
use Rattle.std.proofs.Common.{◌≡◌, ℕ, ◌≤◌, ◌↔◌, IsTrue, List, Some, None, arith}
use Rattle.std.specs.Prelude.{nat_le}
use Rattle.std.specs.List.{AllByRecursion as All}
use Rattle.std.proofs.lemmas.Bool.{le-leb, leb-true}
use Rattle.onfi_problem.specs.Problem.{Problem}
use Rattle.onfi_problem.specs.Moves.{Move, move_lun, after, may_go}
use Rattle.onfi_problem.proofs.Perm.{All-has, All-weaker}
use Rattle.onfi_check.specs.Ends.{IsLastEnd}
use Rattle.onfi_check.specs.Reading.{Fits}

sooner : (p : Problem) (moves : List Move) (own lun end : ℕ) → end ≤ may_go p own → All (λ n. move_lun n ≡ lun → (after p n).bus_free ≤ end) moves → All (λ n. move_lun n ≡ lun → (after p n).bus_free ≤ may_go p own) moves
sooner p moves own lun end h = All-weaker _ _ one moves
  where
    one : (n : Move) → (move_lun n ≡ lun → (after p n).bus_free ≤ end) → move_lun n ≡ lun → (after p n).bus_free ≤ may_go p own
    one n le q = let k = le q in omega arith

by_end : (p : Problem) (moves : List Move) (own lun end : ℕ) → IsLastEnd p moves lun (Some end) → (end ≤ may_go p own) ↔ Fits p moves own lun
by_end p moves own lun end ((m, here, of_lun, is), all) = (
  (λ h. ((m, here, of_lun), sooner p moves own lun end h all)),
  (λ f. let k = All-has (λ n. move_lun n ≡ lun → (after p n).bus_free ≤ may_go p own) moves m f.1 here of_lun in omega arith),
)

pub fits_by_end : (p : Problem) (moves : List Move) (own lun end from : ℕ) → IsLastEnd p moves lun (Some end) → from ≡ may_go p own → IsTrue (nat_le end from) ↔ Fits p moves own lun
fits_by_end p moves own lun end from known is =
    let r = by_end p moves own lun end known in
    ((λ t. let le = leb-true end from t in r.0 (omega arith)), λ f. let le = r.1 f in le-leb end from (omega arith))

pub none_fits : (p : Problem) (moves : List Move) (own lun : ℕ) → IsLastEnd p moves lun None → Fits p moves own lun → ⊥
none_fits p moves own lun none ((m, here, of_lun), all) = All-has (λ n. move_lun n ≡ lun → ⊥) moves m none here of_lun
