-- Blocks by LUN and number, those that aren't kept erased.
use Rattle.std.specs.Prelude.{◌≡◌, ℕ, ◌==◌, ◌&&◌, Bool, List, Option, IfSome, IsSome}
use Rattle.std.specs.Option.{option_map, unwrap_or}
use Rattle.std.specs.Map.{lookup}
use Rattle.onfi_die.specs.declared.kept.Kept.{Kept}
use Rattle.onfi_die.specs.declared.shape.Shape.{Shape}
use Rattle.onfi_die.specs.Shapes.{Device}
use Rattle.onfi_die.specs.Contents.{Contents, fresh}
use Rattle.onfi_die.specs.Blocks.{Blocks}

-- a block that is kept, by its LUN and number
abbrev pub Named : Type 0
Named = (ℕ × ℕ) × Kept

-- the device and the blocks that are kept
pub record Stored : Type 0 where
  pub device : Device
  pub kept : List Named

abbrev pub contents_of : Kept → Contents
contents_of k = record { pages = k.block.pages; changes = k.changes }

-- one LUN and one number
abbrev pub is_same : ℕ × ℕ → ℕ × ℕ → Bool
is_same a b = a.0 == b.0 && a.1 == b.1

-- what is kept of a block
abbrev pub kept_of : List Named → ℕ → ℕ → Option Contents
kept_of kept lun block = option_map contents_of (lookup (is_same (lun, block)) kept)

-- the contents of each block
abbrev pub blocks_of : Stored → Blocks
blocks_of s lun block = unwrap_or (kept_of s.kept lun block) (fresh s.device)

-- there is room for the block's contents
abbrev pub IsKept : ℕ → ℕ → Stored → Type 0
IsKept lun block s = IsSome (kept_of s.kept lun block)

-- each has the device's shape
abbrev pub HaveShape : Shape → List Named → Type 0
HaveShape shape kept = (lun block : ℕ) → IfSome (lookup (is_same (lun, block)) kept) (λ k. k.block.shape ≡ shape)
