-- Numbers, read one by one.
use Rattle.std.proofs.Common.{◌≡◌, ◌<◌, ◌≤◌, ℕ, ◌+◌, true, false, List, [], ◌∷◌, ◌++◌, length, Some, None, refl, sym, ap, arith, cond, append_assoc}
use Rattle.std.specs.Prelude.{◌&&◌, Option, nat_le}
use Rattle.std.proofs.lemmas.Bool.Decides.{nat_tests}
use Rattle.onfi_log.specs.Parts.{parts}
use Rattle.onfi_script.specs.PlanLine.{and_then, each_number, numbers}
use Rattle.onfi_log.proofs.PartsLemmas.{some_parts}

-- the numbers that were read stand before those of what is left
pub record Read (byte : ℕ) (text left : List ℕ) (at : ℕ) (read : List ℕ) : Type 0 where
  pub count : length (parts byte text) ≡ at + length (parts byte left)
  pub each : each_number (parts byte text) ≡ and_then (each_number (parts byte left)) (λ rest. Some (read ++ rest))
  pub size : length read ≡ at

begun : (o : Option (List ℕ)) → o ≡ and_then o (λ rest. Some ([] ++ rest))
begun None = refl
begun (Some xs) = refl

-- the numbers after one that was read
more : (o : Option (List ℕ)) (read : List ℕ) (n : ℕ) → and_then (and_then o (λ rest. Some (n ∷ rest))) (λ rest. Some (read ++ rest)) ≡ and_then o (λ rest. Some ((read ++ n ∷ []) ++ rest))
more None read n = refl
more (Some xs) read n = ap Some (sym (append_assoc read (n ∷ []) xs))

counted : (n most : ℕ) → 1 ≤ n → n ≤ most → (nat_le 1 n && nat_le n most) ≡ true
counted n most a b = grind (arith, nat_tests)

over : (n most : ℕ) → most < n → (nat_le 1 n && nat_le n most) ≡ false
over n most a = grind (arith, nat_tests)

pub read_over : (byte most : ℕ) (text left : List ℕ) (at : ℕ) (read : List ℕ) → most ≤ at → Read byte text left at read → numbers most (parts byte text) ≡ None
read_over byte most text left at read full r =
    let rest = some_parts byte left in
    ap (λ b. cond b (each_number (parts byte text)) None) (over (length (parts byte text)) most (omega (arith, r.count)))
