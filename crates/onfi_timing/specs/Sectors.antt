-- Lengths of reads of some sectors, one to seven, in a list: none where they aren't stated.
use Rattle.std.specs.Prelude.{◌≡◌, ℕ, min, List, [], ◌∷◌, Option, Some, None, slice_get}
use Rattle.onfi_timing.specs.declared.spans.Spans.{Spans}

-- all but the post of these lengths is that of a page's
pub record IsAlike (page spans : Spans) : Type 0 where
  pub cmd : spans.cmd ≡ page.cmd
  pub gap : spans.gap ≡ page.gap
  pub array : spans.array ≡ page.array

-- reads of sectors differ from those of a page by their posts alone
abbrev pub AreAlike : Spans → List (Option Spans) → Type 0
AreAlike page sectors = (i : ℕ) (spans : Spans) → slice_get sectors i ≡ Some (Some spans) → IsAlike page spans

-- the lesser of a post and the post of what is stated
abbrev pub lesser_post : ℕ → Option Spans → ℕ
lesser_post post (Some spans) = min post spans.post
lesser_post post None = post

-- the least of a post and all that are stated
unfoldable pub least_post : ℕ → List (Option Spans) → ℕ
least_post post [] = post
least_post post (one ∷ more) = least_post (lesser_post post one) more
