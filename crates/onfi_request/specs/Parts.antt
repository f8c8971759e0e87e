-- What of a page is put out: all of it, or some sectors.
use Rattle.std.specs.Prelude.{ℕ, ◌+◌, ◌*◌, ◌==◌, ◌&&◌, nat_le, if◌then◌else◌, Bool, true}
use Rattle.onfi_addr.specs.declared.geometry.Geometry.{Geometry}
use Rattle.onfi_addr.specs.Rows.{page_bytes_of}
use Rattle.onfi_timing.specs.declared.kind.Kind.{Kind}
use Rattle.onfi_timing.specs.declared.kind.Kind.TheVariants.{Read, Program, Erase, ReadSectors}

-- one to seven sectors, that many from that one on, lie on a page
abbrev pub has_sectors : Geometry → ℕ → ℕ → Bool
has_sectors geometry first count =
    nat_le 1 count && (nat_le count 7 && (nat_le 1 geometry.sector_bytes && nat_le ((first + count) * geometry.sector_bytes) (page_bytes_of geometry)))

-- a page has the sectors that a kind names, if it names any
abbrev pub has_part : Geometry → Kind → Bool
has_part geometry Read = true
has_part geometry (ReadSectors first count) = has_sectors geometry first count
has_part geometry Program = true
has_part geometry Erase = true

-- how many bytes the output of a read has; of others none are put out
abbrev pub bytes_out : Geometry → Kind → ℕ
bytes_out geometry Read = page_bytes_of geometry
bytes_out geometry (ReadSectors first count) = if count == 0 then page_bytes_of geometry else count * geometry.sector_bytes
bytes_out geometry Program = 0
bytes_out geometry Erase = 0

-- the column at which it begins
abbrev pub first_column : Geometry → Kind → ℕ
first_column geometry Read = 0
first_column geometry (ReadSectors first count) = first * geometry.sector_bytes
first_column geometry Program = 0
first_column geometry Erase = 0
