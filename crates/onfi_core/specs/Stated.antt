-- Lengths of all that is put out.
use Rattle.std.specs.Prelude.{◌≡◌, true}
use Rattle.onfi_addr.specs.declared.geometry.Geometry.{Geometry}
use Rattle.onfi_timing.specs.declared.kind.Kind.{Kind}
use Rattle.onfi_timing.specs.declared.timing.Timing.{Timing}
use Rattle.onfi_timing.specs.Kinds.{IsStated}
use Rattle.onfi_request.specs.Parts.{has_part}

-- the timing states how long each kind takes of which a page has what it puts out
abbrev pub StatesParts : Geometry → Timing → Type 0
StatesParts geometry timing = (kind : Kind) → has_part geometry kind ≡ true → IsStated timing kind
