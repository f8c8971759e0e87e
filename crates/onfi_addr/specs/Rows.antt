-- Row addresses.
use Rattle.std.specs.Prelude.{◌<◌, ◌^◌, ℕ, ◌+◌, ◌*◌, ◌%◌}
use Rattle.onfi_addr.specs.declared.geometry.Geometry.{Geometry}
use Rattle.onfi_addr.specs.declared.place.Place.{Place}

-- the place is a page of the device
pub record IsInRange (geometry : Geometry) (place : Place) : Type 0 where
  pub lun_there : place.lun < geometry.lun_count
  pub block_there : place.block < geometry.blocks_per_lun
  pub page_there : place.page < geometry.pages_per_block

-- the page lowest, above it the block, above it the LUN, each in the bits that its count needs
abbrev pub row_of : Geometry → Place → ℕ
row_of geometry place =
    place.page + place.block * 2 ^ geometry.page_bits + place.lun * 2 ^ (geometry.page_bits + geometry.block_bits)

-- the low bits of a block's number, so many
abbrev pub plane_at : ℕ → ℕ → ℕ
plane_at plane_bits block = block % 2 ^ plane_bits

-- those of a device
abbrev pub plane_of_block : Geometry → ℕ → ℕ
plane_of_block geometry block = plane_at geometry.plane_address_bits block

-- the bytes of a page, spare bytes among them
abbrev pub page_bytes_of : Geometry → ℕ
page_bytes_of geometry = geometry.data_bytes + geometry.spare_bytes
