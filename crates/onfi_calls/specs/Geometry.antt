-- What plain numbers say of a geometry, and the row address of a page of it.
use Rattle.std.specs.Prelude.{◌≡◌, ◌≢◌, ◌≤◌, ℕ, ◌+◌, ◌*◌, ◌^◌}
use Rattle.onfi_addr.specs.Bits.{IsBitCount}
use Rattle.onfi_addr.specs.Rows.{IsInRange, row_of}
use Rattle.onfi_addr.specs.declared.geometry.Geometry.{Geometry}
use Rattle.onfi_addr.specs.declared.place.Place.{Place}
use Rattle.onfi_calls.specs.declared.device.PlainGeometry.{PlainGeometry}
use Rattle.onfi_calls.specs.declared.status.Status.{Status}
use Rattle.onfi_calls.specs.declared.status.Status.TheVariants.{BadGeometry, BadPlace}
use Rattle.onfi_calls.specs.Device.{written_geometry}
use Rattle.onfi_calls.specs.Status.{number_of}

-- LUNs, planes, pages and blocks are as many as a device may have
pub record AreCounts (g : PlainGeometry) : Type 0 where
  pub some_lun : 1 ≤ g.lun_count
  pub few_luns : g.lun_count ≤ 8
  pub few_planes : g.plane_address_bits ≤ 2
  pub some_page : 1 ≤ g.pages_per_block
  pub few_pages : g.pages_per_block ≤ 4096
  pub some_block : 1 ≤ g.blocks_per_lun
  pub few_blocks : g.blocks_per_lun ≤ 65536

-- the bits of row addresses are the fewest for these counts, and fit the row address cycles
pub record AreRowBits (g : PlainGeometry) : Type 0 where
  pub few_page_bits : g.page_bits ≤ 12
  pub few_block_bits : g.block_bits ≤ 16
  pub few_lun_bits : g.lun_bits ≤ 3
  pub least_page_bits : IsBitCount g.pages_per_block g.page_bits
  pub least_block_bits : IsBitCount g.blocks_per_lun g.block_bits
  pub least_lun_bits : IsBitCount g.lun_count g.lun_bits
  pub few_row_cycles : g.row_address_cycles ≤ 15
  pub rows_fit : g.page_bits + g.block_bits + g.lun_bits ≤ 8 * g.row_address_cycles

-- a page has some bytes, and they fit the column address cycles
pub record AreColumns (g : PlainGeometry) : Type 0 where
  pub some_data : 1 ≤ g.data_bytes
  pub few_bytes : g.data_bytes + g.spare_bytes ≤ 65535
  pub few_column_cycles : g.column_address_cycles ≤ 15
  pub columns_fit : g.data_bytes + g.spare_bytes ≤ 2 ^ (8 * g.column_address_cycles)

-- no geometry is said so
abbrev pub IsNoGeometry : PlainGeometry → Type 0
IsNoGeometry said = (geometry : Geometry) → said ≢ written_geometry geometry

-- the row address of a page of the device that is said
pub record IsRowSaid (said : PlainGeometry) (place : Place) (row : ℕ) : Type 0 where
  pub geometry : Geometry
  pub written : said ≡ written_geometry geometry
  pub there : IsInRange geometry place
  pub row_is : row ≡ row_of geometry place

-- the device that is said doesn't have the place
pub record IsNoPlace (said : PlainGeometry) (place : Place) : Type 0 where
  pub geometry : Geometry
  pub written : said ≡ written_geometry geometry
  pub not_there : IsInRange geometry place → ⊥

-- why there is no row address: the first of these
abbrev pub IsNoRow : PlainGeometry → Place → Status → Type 0
IsNoRow said place BadGeometry = IsNoGeometry said
IsNoRow said place BadPlace = IsNoPlace said place
IsNoRow said place _ = ⊥

-- a caller is given a row address, or a number that says why there is none, and nothing else
pub data GivesRow (said : PlainGeometry) (place : Place) (old new result : ℕ) : Type 0 where
  gives_row : IsRowSaid said place new → result ≡ 0 → GivesRow said place old new result
  refuses_row : (status : Status) → IsNoRow said place status → new ≡ old → result ≡ number_of status → GivesRow said place old new result
