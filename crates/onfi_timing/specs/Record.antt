-- What stands in the fields of a row of text, and what is made of rows one after another.
use Rattle.std.specs.Prelude.{ℕ, ◌+◌, List, [], ◌∷◌, Result, Ok, Err, unwrap_or}
use Rattle.csv.specs.Records.{field_at}

-- a field of a row, from 0; nothing where the row is shorter
abbrev pub field : List (List ℕ) → ℕ → List ℕ
field row at = unwrap_or (field_at row at) []

abbrev pub goes_on : {S F : Type 0} → Result S F → (S → Result S F) → Result S F
goes_on (Ok more) next = next more
goes_on (Err fault) next = Err fault

-- what `with_row` makes of these rows, of which the first has that number; or the first that it refuses
unfoldable pub with_each : {S F : Type 0} → (S → ℕ → List (List ℕ) → Result S F) → S → ℕ → List (List (List ℕ)) → Result S F
with_each with_row so_far row [] = Ok so_far
with_each with_row so_far row (fields ∷ records) = goes_on (with_row so_far row fields) (λ more. with_each with_row more (row + 1) records)
