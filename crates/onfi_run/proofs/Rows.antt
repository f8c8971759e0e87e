-- Walks over the rows of a run.
use Rattle.std.proofs.Common.{◌≡◌, ◌<◌, ◌≤◌, ℕ, suc, ◌+◌, List, length, drop, get_or, sym, ap, ◌∙◌, add-one, drop-cons, Some, None}
use Rattle.std.specs.Prelude.{Option}
use Rattle.std.proofs.Math.ListN.{drop_of_length-le}
use Rattle.onfi_addr.specs.declared.geometry.Geometry.{Geometry}
use Rattle.onfi_script.specs.declared.fault.Refusal.{Refusal}
use Rattle.onfi_script.specs.declared.fault.ScriptFault.{ScriptFault}
use Rattle.onfi_script.specs.declared.row.Row.{Row}
use Rattle.onfi_run.specs.Prepared.{first_refused, or_later, row_fault}

-- ---- the first refused row
-- nothing is wrong with the rows before number `at`
abbrev pub Passed : ℕ → ℕ → Geometry → List Row → ℕ → Type 0
Passed channels hosts geometry rows at = first_refused channels hosts geometry 1 rows ≡ first_refused channels hosts geometry (at + 1) (drop at rows)

here : (channels hosts : ℕ) (geometry : Geometry) (rows : List Row) (at : ℕ) (row : Row) (o : Option ScriptFault) → at < length rows → o ≡ row_fault channels hosts geometry (get_or rows at row)
    → Passed channels hosts geometry rows at → first_refused channels hosts geometry 1 rows ≡ or_later (at + 1) o (first_refused channels hosts geometry (at + 1 + 1) (drop (at + 1) rows))
unfolding first_refused
here channels hosts geometry rows at row o h told passed =
    passed ∙ ap (first_refused channels hosts geometry (at + 1)) (drop-cons rows at row h)
    ∙ ap (λ o. or_later (at + 1) o (first_refused channels hosts geometry (at + 1 + 1) (drop (suc at) rows))) (sym told)
    ∙ ap (λ n. or_later (at + 1) o (first_refused channels hosts geometry (at + 1 + 1) (drop n rows))) (sym (add-one at))

pub fine_so_far : (channels hosts : ℕ) (geometry : Geometry) (rows : List Row) (at : ℕ) (row : Row) → at < length rows → None ≡ row_fault channels hosts geometry (get_or rows at row)
    → Passed channels hosts geometry rows at → Passed channels hosts geometry rows (at + 1)
fine_so_far channels hosts geometry rows at row h told passed = here channels hosts geometry rows at row None h told passed

pub refused_here : (channels hosts : ℕ) (geometry : Geometry) (rows : List Row) (at : ℕ) (row : Row) (fault : ScriptFault) → at < length rows → Some fault ≡ row_fault channels hosts geometry (get_or rows at row)
    → Passed channels hosts geometry rows at → Some (let r : Refusal = record { row = at + 1; fault = fault } in r) ≡ first_refused channels hosts geometry 1 rows
refused_here channels hosts geometry rows at row fault h told passed = sym (here channels hosts geometry rows at row (Some fault) h told passed)

pub all_fine : (channels hosts : ℕ) (geometry : Geometry) (rows : List Row) (at : ℕ) → length rows ≤ at → Passed channels hosts geometry rows at → None ≡ first_refused channels hosts geometry 1 rows
unfolding first_refused
all_fine channels hosts geometry rows at h passed = sym (passed ∙ ap (first_refused channels hosts geometry (at + 1)) (drop_of_length-le rows h))
