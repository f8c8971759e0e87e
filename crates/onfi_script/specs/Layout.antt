-- The geometry of a device, of the first form and with sectors.
use Rattle.std.specs.Prelude.{◌≡◌, ℕ, ◌&&◌, nat_le, if◌then◌else◌, List}
use Rattle.onfi_addr.specs.declared.geometry.Geometry.{Geometry}
use Rattle.onfi_addr.specs.Layout.{IsGeometryOf}
use Rattle.onfi_addr.specs.Rows.{page_bytes_of}
use Rattle.onfi_script.specs.RowParts.{ShapeRow, GeometryRow}

-- what the rows `shape` and `geometry` say, all bytes of a page as its data, read as a whole; how many address cycles there are is seen
-- nowhere in a run
pub record IsLaidOut (shape : ShapeRow) (row : GeometryRow) (g : Geometry) : Type 0 where
  pub shaped : shape ≡ record { luns = g.lun_count; plane_bits = g.plane_address_bits; read = g.multi_plane_reads; write = g.multi_plane_writes }
  pub sized : row ≡ record { blocks = g.blocks_per_lun; pages = g.pages_per_block; bytes = g.data_bytes; any_order = g.any_page_order }
  pub no_spare : g.spare_bytes ≡ 0
  pub whole_pages : g.sector_bytes ≡ 0
  pub cycles : (g.column_address_cycles ≡ 2) × (g.row_address_cycles ≡ 4)

-- with sectors of that many bytes, where a sector has any and a page as many
abbrev pub with_sectors : ℕ → Geometry → Geometry
with_sectors bytes g = if nat_le 1 bytes && nat_le bytes (page_bytes_of g) then record g { sector_bytes = bytes } else g

-- the geometry of a page, with these sectors
pub record IsSectored (page : List ℕ) (bytes : ℕ) (g : Geometry) : Type 0 where
  pub whole_pages : Geometry
  pub layout : IsGeometryOf page whole_pages
  pub sectors : g ≡ with_sectors bytes whole_pages
