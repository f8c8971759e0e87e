-- When a yield is refused.
use Rattle.std.proofs.Common.{◌≡◌, ◌≢◌, ℕ, ◌≤◌, ◌<◌, List, length, Some, None, refl, ap, ◌∙◌, subst, arith}
use Rattle.std.specs.Prelude.{Option}
use Rattle.std.specs.List.{AllByRecursion as All}
use Rattle.onfi_problem.specs.Problem.{Problem, IsProblem}
use Rattle.onfi_problem.specs.Moves.{Move, IsMove, move_lun, may_go, after}
use Rattle.onfi_problem.proofs.Perm.{All-has}
use Rattle.onfi_check.specs.Ends.{IsLastEnd}
use Rattle.onfi_demand.proofs.Opened.{left_there}
use Rattle.onfi_demand.proofs.Sooner.{move_has}
use Rattle.onfi_known_check.specs.declared.given.Given.{Given}
use Rattle.onfi_known_check.specs.Proves.{MayYield}

-- no last end is later than another
last_least : (p : Problem) (moves : List Move) (lun a b : ℕ) → IsLastEnd p moves lun (Some a) → IsLastEnd p moves lun (Some b) → a ≤ b
last_least p moves lun a b (x, _) (_, below) = let le = All-has (λ n. move_lun n ≡ lun → (after p n).bus_free ≤ b) moves x.0 below x.1 x.2 in omega (arith, x.3)

pub one_last : (p : Problem) (moves : List Move) (lun a b : ℕ) → IsLastEnd p moves lun (Some a) → IsLastEnd p moves lun (Some b) → a ≡ b
one_last p moves lun a b h k = let x = last_least p moves lun a b h k in let y = last_least p moves lun b a k h in omega arith

at_lun : (p : Problem) (moves : List Move) (y : Given) (lun end : ℕ) → y.lun ≡ lun → IsLastEnd p moves y.lun (Some end) → IsLastEnd p moves lun (Some end)
at_lun p moves y lun end q h = subst (λ l. IsLastEnd p moves l (Some end)) q h

-- a LUN without moves isn't yielded to
pub no_end : (p : Problem) (moves : List Move) (m : Move) (y : Given) (given : List Given) (lun : ℕ) (o : Option ℕ) → IsLastEnd p moves lun o → ((x : ℕ) → o ≡ Some x → ⊥) → y.lun ≡ lun → MayYield p moves given m y → ⊥
no_end p moves m y given lun (Some x) h none q may = none x refl
no_end p moves m y given lun None h none q may =
    let x = (at_lun p moves y lun may.end q may.last).0 in
    All-has (λ n. move_lun n ≢ lun) moves x.0 h x.1 x.2

-- .. nor one that isn't there
pub not_there : (p : Problem) (moves : List Move) (m : Move) (y : Given) (given : List Given) (lun : ℕ) → IsProblem p → All (IsMove p) moves → y.lun ≡ lun → length p.luns ≤ lun → MayYield p moves given m y → ⊥
not_there p moves m y given lun ip each q far may =
    let x = may.last.0 in
    let has = move_has p x.0 (All-has (IsMove p) moves x.0 each x.1) in
    let there = left_there p (move_lun x.0) ip has in
    let same : move_lun x.0 ≡ y.lun = x.2 in
    omega arith

-- .. nor one whose moves end too late
pub too_late : (p : Problem) (moves : List Move) (m : Move) (y : Given) (given : List Given) (own lun end : ℕ) → IsLastEnd p moves lun (Some end) → move_lun m ≡ own → y.lun ≡ lun → may_go p own < end → MayYield p moves given m y → ⊥
too_late p moves m y given own lun end last o q late may =
    let e = one_last p moves lun end may.end last (at_lun p moves y lun may.end q may.last) in
    let f = may.fits in
    let s : may_go p y.own ≡ may_go p own = ap (may_go p) (may.own ∙ o) in
    omega arith
