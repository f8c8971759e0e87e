-- A block as it lies in memory: its shape and its pages.
use Rattle.std.specs.Prelude.{◌≡◌, ℕ, List, length, All}
use Rattle.onfi_die.specs.declared.page.Page.{Page}
use Rattle.onfi_die.specs.declared.page.Page.TheVariants.{Erased, Torn, Holds}
use Rattle.onfi_die.specs.declared.shape.Shape.{Shape}

pub record ShapedPages : Type 0 where
  pub shape : Shape
  pub pages : List Page

-- what a page holds is all bytes of a page
abbrev pub IsWide : ℕ → Page → Type 0
IsWide bytes Erased = Unit {0}
IsWide bytes Torn = Unit {0}
IsWide bytes (Holds content) = length content ≡ bytes

-- the pages are those of the shape
pub record IsWhole (shape : Shape) (pages : List Page) : Type 0 where
  pub count : length pages ≡ shape.pages
  pub wide : All (IsWide shape.bytes) pages
