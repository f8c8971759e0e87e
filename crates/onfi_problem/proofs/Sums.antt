-- Sums, and the latest time, one element on.
use Rattle.std.proofs.Common.{◌≡◌, ℕ, zero, suc, ◌+◌, ◌<◌, List, [], ◌∷◌, length, get_or, take, Some, refl, ap, subst, arith}
use Rattle.std.specs.Prelude.{max, slice_get}
use Rattle.std.proofs.lemmas.List.{take_more}
use Rattle.std.proofs.lemmas.Option.{get_or_from_slice_get}
use Rattle.onfi_request.specs.declared.want.Want.{Want}
use Rattle.onfi_group.specs.declared.rules.Rules.{Rules}
use Rattle.onfi_group.specs.Words.{total}
use Rattle.onfi_problem.specs.declared.lun_state.LunState.{LunState}
use Rattle.onfi_problem.specs.declared.lun_state.LunState.TheVariants.{Free, Running}
use Rattle.onfi_problem.specs.Problem.{IsRunning}
use Rattle.onfi_problem.specs.Left.{latest_wait}
use Rattle.onfi_problem.specs.Checks.{IsLun, AreLuns, time_of}
use Rattle.onfi_problem.proofs.Places.{within_get}
use Rattle.onfi_problem.proofs.Wants.{total-append}

pub total_more : {A : Type 0} (f : A → ℕ) (xs : List A) (i : ℕ) (d : A) → i < length xs → total f (take (i + 1) xs) ≡ total f (take i xs) + f (get_or xs i d)
total_more f xs i d h = let e = total-append f (take i xs) (get_or xs i d ∷ []) in rw (take_more xs i d h) (omega arith)

latest_suc : (t : ℕ) (xs : List LunState) (i : ℕ) (d : LunState) → i < length xs → latest_wait t (take (suc i) xs) ≡ max (latest_wait t (take i xs)) (time_of (get_or xs i d))
latest_suc t [] i d h = absurd (omega arith)
latest_suc t (Free since ∷ xs) zero d h = omega arith
latest_suc t (Running g n r ∷ xs) zero d h = omega arith
latest_suc t (Free since ∷ xs) (suc i) d h = let e = latest_suc t xs i d (omega arith) in omega arith
latest_suc t (Running g n r ∷ xs) (suc i) d h = let e = latest_suc t xs i d (omega arith) in omega arith

pub latest_more : (t : ℕ) (xs : List LunState) (i : ℕ) (d : LunState) → i < length xs → latest_wait t (take (i + 1) xs) ≡ max (latest_wait t (take i xs)) (time_of (get_or xs i d))
latest_more t xs i d h = let e : suc i ≡ i + 1 = omega arith in subst (λ n. latest_wait t (take n xs) ≡ max (latest_wait t (take i xs)) (time_of (get_or xs i d))) e (latest_suc t xs i d h)

-- what each LUN does is tested one after the other
pub lun_at : (rules : Rules) (at : ℕ) (luns : List LunState) (i : ℕ) (d : LunState) → AreLuns rules at luns → i < length luns → IsLun rules (at + i) (get_or luns i d)
lun_at rules at [] i d a h = absurd (omega arith)
lun_at rules at (x ∷ luns) zero d a h = let z : at ≡ at + 0 = omega arith in subst (λ n. IsLun rules n x) z a.0
lun_at rules at (x ∷ luns) (suc i) d a h = let z : at + 1 + i ≡ at + suc i = omega arith in subst (λ n. IsLun rules n (get_or luns i d)) z (lun_at rules (at + 1) luns i d a.1 (omega arith))

pub luns_run : (rules : Rules) (at : ℕ) (luns : List LunState) → AreLuns rules at luns → (lun : ℕ) (g : List Want) (n r : ℕ) → slice_get luns lun ≡ Some (Running g n r) → IsRunning rules (at + lun) g n
luns_run rules at luns h lun g n r e =
    let x = Running g n r in
    subst (IsLun rules (at + lun)) (get_or_from_slice_get luns lun x x e) (lun_at rules at luns lun x h (within_get luns lun x e))

pub run_luns : (rules : Rules) (at : ℕ) (luns : List LunState) → ((lun : ℕ) (g : List Want) (n r : ℕ) → slice_get luns lun ≡ Some (Running g n r) → IsRunning rules (at + lun) g n) → AreLuns rules at luns
run_luns rules at [] h = tt
run_luns rules at (x ∷ luns) h = (first x (λ g n r e. let z : at + 0 ≡ at = omega arith in subst (λ i. IsRunning rules i g n) z (h 0 g n r (ap Some e))), run_luns rules (at + 1) luns (λ lun g n r e. let z : at + suc lun ≡ at + 1 + lun = omega arith in subst (λ i. IsRunning rules i g n) z (h (suc lun) g n r e)))
  where
    first : (y : LunState) → ((g : List Want) (n r : ℕ) → y ≡ Running g n r → IsRunning rules at g n) → IsLun rules at y
    first (Free since) k = tt
    first (Running g n r) k = k g n r refl

-- a sum so far, and one element more
pub one_more : {A : Type 0} (f : A → ℕ) (xs : List A) (i : ℕ) (d : A) (t r : ℕ) → i < length xs → t ≡ total f (take i xs) → r ≡ f (get_or xs i d) → t + r ≡ total f (take (i + 1) xs)
one_more f xs i d t r h e q = let m = total_more f xs i d h in omega arith

pub luns_of : (rules : Rules) (luns : List LunState) → ((lun : ℕ) (g : List Want) (n r : ℕ) → slice_get luns lun ≡ Some (Running g n r) → IsRunning rules lun g n) → AreLuns rules 0 luns
luns_of rules luns h = run_luns rules 0 luns (λ lun g n r e. let z : lun ≡ 0 + lun = omega arith in subst (λ i. IsRunning rules i g n) z (h lun g n r e))
