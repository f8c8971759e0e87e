-- What a geometry keeps of a parameter page.
use Rattle.std.specs.Prelude.{◌≡◌, ◌↔◌, ℕ, List, IsTrue, IsBitSet}
use Rattle.onfi_param.specs.Fields.{features, data_bytes, spare_bytes, pages_per_block, blocks_per_lun, lun_count, column_cycles, row_cycles, plane_address_bits}
use Rattle.onfi_addr.specs.declared.geometry.Geometry.{Geometry}

-- the geometry of the page, which tells of no sectors; its bit counts are the least for its counts, as each geometry's are
pub record IsGeometryOf (page : List ℕ) (geometry : Geometry) : Type 0 where
  pub lun_count : geometry.lun_count ≡ lun_count page
  pub plane_address_bits : geometry.plane_address_bits ≡ plane_address_bits page
  pub pages_per_block : geometry.pages_per_block ≡ pages_per_block page
  pub blocks_per_lun : geometry.blocks_per_lun ≡ blocks_per_lun page
  pub column_address_cycles : geometry.column_address_cycles ≡ column_cycles page
  pub row_address_cycles : geometry.row_address_cycles ≡ row_cycles page
  pub data_bytes : geometry.data_bytes ≡ data_bytes page
  pub spare_bytes : geometry.spare_bytes ≡ spare_bytes page
  pub sector_bytes : geometry.sector_bytes ≡ 0
  pub any_page_order : IsTrue geometry.any_page_order ↔ IsBitSet (features page) 2
  pub multi_plane_writes : IsTrue geometry.multi_plane_writes ↔ IsBitSet (features page) 3
  pub multi_plane_reads : IsTrue geometry.multi_plane_reads ↔ IsBitSet (features page) 6
