-- Which operations of arrays rows name.
use Rattle.std.specs.Prelude.{◌≡◌, ℕ, ◌==◌, ◌&&◌, Bool, List, Option, Some, None}
use Rattle.std.specs.List.{list_any}
use Rattle.onfi_script.specs.declared.row.Row.{Row}
use Rattle.onfi_script.specs.declared.row.Subject.{Subject}
use Rattle.onfi_script.specs.declared.row.Subject.TheVariants as on
use Rattle.onfi_script.specs.Subject.{settles}

-- an operation by its channel, its LUN and its number
abbrev pub Named : Type 0
Named = ℕ × ℕ × ℕ

-- the one that a row settles
abbrev pub array_of : Option Subject → Option Named
array_of (Some (on.Array channel lun number)) = Some (channel, lun, number)
array_of _ = None

abbrev pub is_same : Named → Named → Bool
is_same a b = a.0 == b.0 && a.1 == b.1 && a.2 == b.2

-- these are the operations that the rows name
abbrev pub AreTold : List Row → List Named → Type 0
AreTold rows told = (channel lun number : ℕ) → list_any (is_same (channel, lun, number)) told ≡ list_any (settles (on.Array channel lun number)) rows
