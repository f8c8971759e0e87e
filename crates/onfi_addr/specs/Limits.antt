-- What a parameter page without faults allows.
use Rattle.std.specs.Prelude.{ℕ, ◌+◌, ◌*◌, ◌^◌, ◌≤◌, List}
use Rattle.onfi_param.specs.Fields.{data_bytes, pages_per_block, blocks_per_lun, lun_count, column_cycles, row_cycles, plane_address_bits}
use Rattle.onfi_addr.specs.Bits.{IsBitCount}
use Rattle.onfi_addr.specs.Faults.{page_bytes}

-- each count is in its range, and rows and columns fit their cycles
pub record IsWithinLimits (page : List ℕ) : Type 0 where
  pub some_lun : 1 ≤ lun_count page
  pub few_luns : lun_count page ≤ 8
  pub few_planes : plane_address_bits page ≤ 2
  pub some_page : 1 ≤ pages_per_block page
  pub few_pages : pages_per_block page ≤ 4096
  pub some_block : 1 ≤ blocks_per_lun page
  pub few_blocks : blocks_per_lun page ≤ 65536
  pub some_data : 1 ≤ data_bytes page
  pub few_bytes : page_bytes page ≤ 65535
  pub columns_fit : page_bytes page ≤ 2 ^ (8 * column_cycles page)
  pub rows_fit : (page_bits block_bits lun_bits : ℕ) → IsBitCount (pages_per_block page) page_bits → IsBitCount (blocks_per_lun page) block_bits
      → IsBitCount (lun_count page) lun_bits → page_bits + block_bits + lun_bits ≤ 8 * row_cycles page
