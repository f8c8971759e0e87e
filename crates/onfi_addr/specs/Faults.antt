-- Which parameter pages have no geometry, and why.
use Rattle.std.specs.Prelude.{◌≡◌, ◌⊎◌, ◌<◌, ◌^◌, ℕ, ◌+◌, ◌*◌, List, IsBitSet}
use Rattle.onfi_param.specs.Fields.{features, optional_commands, data_bytes, spare_bytes, pages_per_block, blocks_per_lun, lun_count, column_cycles, row_cycles, plane_address_bits}
use Rattle.onfi_addr.specs.Bits.{IsBitCount}
use Rattle.onfi_addr.specs.declared.fault.GeometryFault.{GeometryFault}
use Rattle.onfi_addr.specs.declared.fault.GeometryFault.TheVariants.{WideBus, NoStatusEnhanced, NoColumnEnhanced, NoMultiLun, LunCount, PlaneBits, Zero, RowTooWide, ColumnTooWide, TooLarge}

-- the bytes of a page of the device
abbrev pub page_bytes : List ℕ → ℕ
page_bytes page = data_bytes page + spare_bytes page

-- the row address cycles have fewer bits than pages, blocks and LUNs need together
pub record RowsAreTooWide (page : List ℕ) : Type 0 where
  pub page_bits : ℕ
  pub pages : IsBitCount (pages_per_block page) page_bits
  pub block_bits : ℕ
  pub blocks : IsBitCount (blocks_per_lun page) block_bits
  pub lun_bits : ℕ
  pub luns : IsBitCount (lun_count page) lun_bits
  pub too_wide : 8 * row_cycles page < page_bits + block_bits + lun_bits

-- the page has this fault, whatever other faults it has
abbrev pub Has : List ℕ → GeometryFault → Type 0
Has page WideBus = IsBitSet (features page) 0
Has page NoStatusEnhanced = ¬ IsBitSet (optional_commands page) 3
Has page NoColumnEnhanced = ¬ IsBitSet (optional_commands page) 6
Has page NoMultiLun = (1 < lun_count page) × ¬ IsBitSet (features page) 1
Has page LunCount = (lun_count page ≡ 0) ⊎ (8 < lun_count page)
Has page PlaneBits = 2 < plane_address_bits page
Has page Zero = (pages_per_block page ≡ 0) ⊎ ((blocks_per_lun page ≡ 0) ⊎ (data_bytes page ≡ 0))
Has page RowTooWide = RowsAreTooWide page
Has page ColumnTooWide = 2 ^ (8 * column_cycles page) < page_bytes page
Has page TooLarge = (4096 < pages_per_block page) ⊎ ((65536 < blocks_per_lun page) ⊎ (65535 < page_bytes page))

-- the place of a fault in the order in which they are reported
abbrev pub order_of : GeometryFault → ℕ
order_of WideBus = 0
order_of NoStatusEnhanced = 1
order_of NoColumnEnhanced = 2
order_of NoMultiLun = 3
order_of LunCount = 4
order_of PlaneBits = 5
order_of Zero = 6
order_of RowTooWide = 7
order_of ColumnTooWide = 8
order_of TooLarge = 9

-- the page has this fault and none that is reported before it
pub record IsFirstFault (page : List ℕ) (fault : GeometryFault) : Type 0 where
  pub there : Has page fault
  pub none_before : (earlier : GeometryFault) → order_of earlier < order_of fault → ¬ Has page earlier

-- the page has no fault
abbrev pub NoFault : List ℕ → Type 0
NoFault page = (fault : GeometryFault) → ¬ Has page fault
