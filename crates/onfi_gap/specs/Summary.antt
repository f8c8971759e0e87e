-- Mean, median and most of gaps.
use Rattle.std.specs.Prelude.{◌≡◌, ℕ, ◌-◌, ◌/◌, List, [], length, Option, Some, None, slice_get}
use Rattle.std.specs.List.{sum}
use Rattle.std.specs.List.Sorted.{IsNonDecreasing, IsPermutation}
use Rattle.onfi_gap.specs.declared.summary.Summary.{Summary}

-- their mean, rounded down; in rising order the one in the middle, the lower of two, and the last
pub record IsSummary (xs : List ℕ) (s : Summary) : Type 0 where
  pub mean : s.mean ≡ sum xs / length xs
  pub rising : List ℕ
  pub same : IsPermutation xs rising
  pub is_rising : IsNonDecreasing rising
  pub median : slice_get rising ((length xs - 1) / 2) ≡ Some s.median
  pub most : slice_get rising (length xs - 1) ≡ Some s.most

-- none of none
abbrev pub IsSummaryOf : List ℕ → Option Summary → Type 0
IsSummaryOf xs None = xs ≡ []
IsSummaryOf xs (Some s) = IsSummary xs s
