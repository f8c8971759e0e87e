-- Sectors of a page.
use Rattle.std.specs.Prelude.{ℕ, ◌≤◌}
use Rattle.onfi_addr.specs.declared.geometry.Geometry.{Geometry}
use Rattle.onfi_addr.specs.Rows.{page_bytes_of}

-- a sector of a page may have so many bytes
pub record IsSectorSize (geometry : Geometry) (bytes : ℕ) : Type 0 where
  pub some : 1 ≤ bytes
  pub within : bytes ≤ page_bytes_of geometry
