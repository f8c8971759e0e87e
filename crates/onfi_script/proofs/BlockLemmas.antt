-- A walk over the last fields of a row.
use Rattle.std.proofs.Common.{◌≡◌, ◌<◌, ℕ, zero, suc, ◌+◌, List, [], ◌∷◌, ◌++◌, length, drop, Ok, Err, refl, sym, ap, ◌∙◌, arith, append_assoc}
use Rattle.std.specs.Prelude.{Result}
use Rattle.csv.specs.Records.{field_at}
use Rattle.onfi_script.specs.declared.fault.ScriptFault.{ScriptFault}
use Rattle.onfi_script.specs.Field.{given, field}
use Rattle.onfi_script.specs.Row.{each_of}

-- a row from a field on is that field and the row after it
pub drop_field : (row : List (List ℕ)) (at : ℕ) → at < length row → drop at row ≡ field row at ∷ drop (at + 1) row
unfolding field_at
drop_field [] at h = absurd (omega arith)
drop_field (f ∷ row) zero h = refl
drop_field (f ∷ row) (suc at) h = let e : suc (at + 1) ≡ suc at + 1 = omega arith in drop_field row at (omega arith) ∙ ap (λ n. field row at ∷ drop n (f ∷ row)) e

-- the fields after those that were read
more : (o : Result (List ℕ) ScriptFault) (xs : List ℕ) (b : ℕ) → given (given o (λ bs. Ok (b ∷ bs))) (λ rest. Ok (xs ++ rest)) ≡ given o (λ rest. Ok ((xs ++ b ∷ []) ++ rest))
more (Ok bs) xs b = ap Ok (sym (append_assoc xs (b ∷ []) bs))
more (Err e) xs b = refl

pub field_passed : (read : List ℕ → Result ℕ ScriptFault) (row : List (List ℕ)) (at b : ℕ) (xs : List ℕ) (all : Result (List ℕ) ScriptFault)
    → at < length row → read (field row at) ≡ Ok b
    → all ≡ given (each_of read (drop at row)) (λ rest. Ok (xs ++ rest))
    → all ≡ given (each_of read (drop (at + 1) row)) (λ rest. Ok ((xs ++ b ∷ []) ++ rest))
field_passed read row at b xs all h ok e =
    e ∙ ap (λ l. given (each_of read l) (λ rest. Ok (xs ++ rest))) (drop_field row at h)
    ∙ ap (λ o. given (given o (λ b. given (each_of read (drop (at + 1) row)) (λ bs. Ok (b ∷ bs)))) (λ rest. Ok (xs ++ rest))) ok
    ∙ more (each_of read (drop (at + 1) row)) xs b
