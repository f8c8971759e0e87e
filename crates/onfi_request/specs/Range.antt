-- Which requests a device takes.
use Rattle.std.specs.Prelude.{◌≡◌, ℕ, ◌<◌, ◌==◌, nat_le, if◌then◌else◌, true, length, Option, Some, None}
use Rattle.onfi_addr.specs.declared.geometry.Geometry.{Geometry}
use Rattle.onfi_addr.specs.Rows.{page_bytes_of}
use Rattle.onfi_timing.specs.declared.kind.Kind.{Kind}
use Rattle.onfi_timing.specs.declared.kind.Kind.TheVariants.{Read, Program, Erase, ReadSectors}
use Rattle.onfi_request.specs.Parts.{has_part}
use Rattle.onfi_request.specs.declared.checking.RequestFault.{RequestFault}
use Rattle.onfi_request.specs.declared.checking.RequestFault.TheVariants.{Lun, Block, Page, DataLength, Sectors}
use Rattle.onfi_request.specs.declared.request.Request.{Request}

-- how many pages of a block may be named: an erase names page 0
abbrev pub pages_for : Geometry → Kind → ℕ
pages_for geometry Read = geometry.pages_per_block
pages_for geometry (ReadSectors first count) = geometry.pages_per_block
pages_for geometry Program = geometry.pages_per_block
pages_for geometry Erase = 1

-- how many bytes are brought: a program brings all data and spare bytes of the page, the others none
abbrev pub bytes_for : Geometry → Kind → ℕ
bytes_for geometry Read = 0
bytes_for geometry (ReadSectors first count) = 0
bytes_for geometry Program = page_bytes_of geometry
bytes_for geometry Erase = 0

abbrev pub IsPageFor : Geometry → Kind → ℕ → Type 0
IsPageFor geometry kind page = page < pages_for geometry kind

abbrev pub IsLengthFor : Geometry → Kind → ℕ → Type 0
IsLengthFor geometry kind count = count ≡ bytes_for geometry kind

-- the device takes the request
pub record Fits (geometry : Geometry) (request : Request) : Type 0 where
  pub lun : request.place.lun < geometry.lun_count
  pub block : request.place.block < geometry.blocks_per_lun
  pub page : IsPageFor geometry request.kind request.place.page
  pub data_length : IsLengthFor geometry request.kind (length request.bytes)
  pub part : has_part geometry request.kind ≡ true

-- the first fault of a request
abbrev pub fault_of : Geometry → Request → Option RequestFault
fault_of geometry request =
    if nat_le geometry.lun_count request.place.lun then Some Lun
    else if nat_le geometry.blocks_per_lun request.place.block then Some Block
    else if nat_le (pages_for geometry request.kind) request.place.page then Some Page
    else if length request.bytes == bytes_for geometry request.kind then (if has_part geometry request.kind then None else Some Sectors)
    else Some DataLength
