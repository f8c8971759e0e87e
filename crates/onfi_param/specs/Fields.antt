-- The fields of a parameter page, as functions of its bytes.
use Rattle.std.specs.Prelude.{ℕ, ◌+◌, ◌*◌, ◌/◌, ◌%◌, List, slice_index, slice_range}

-- the number of two bytes from `at` on, the least significant first
unfoldable pub two_bytes : ℕ → List ℕ → ℕ
two_bytes at page = slice_index page at + 256 * slice_index page (at + 1)

-- the number of four bytes from `at` on, the least significant first
unfoldable pub four_bytes : ℕ → List ℕ → ℕ
four_bytes at page = two_bytes at page + 65536 * two_bytes (at + 2) page

-- bit 0: 16-bit data bus, 1: multiple LUN operations, 2: non-sequential page programming,
-- 3: multi-plane program and erase, 6: multi-plane read
unfoldable pub features : List ℕ → ℕ
features page = two_bytes 6 page

-- bit 3: Read Status Enhanced, 6: Change Read Column Enhanced
unfoldable pub optional_commands : List ℕ → ℕ
optional_commands page = two_bytes 8 page

unfoldable pub signature : List ℕ → List ℕ
signature page = slice_range page 0 4

unfoldable pub manufacturer : List ℕ → List ℕ
manufacturer page = slice_range page 32 44

unfoldable pub model : List ℕ → List ℕ
model page = slice_range page 44 64

unfoldable pub data_bytes : List ℕ → ℕ
data_bytes page = four_bytes 80 page

unfoldable pub spare_bytes : List ℕ → ℕ
spare_bytes page = two_bytes 84 page

unfoldable pub pages_per_block : List ℕ → ℕ
pages_per_block page = four_bytes 92 page

unfoldable pub blocks_per_lun : List ℕ → ℕ
blocks_per_lun page = four_bytes 96 page

unfoldable pub lun_count : List ℕ → ℕ
lun_count page = slice_index page 100

-- the high half of a byte whose low half counts the row cycles
unfoldable pub column_cycles : List ℕ → ℕ
column_cycles page = slice_index page 101 / 16

unfoldable pub row_cycles : List ℕ → ℕ
row_cycles page = slice_index page 101 % 16

unfoldable pub plane_address_bits : List ℕ → ℕ
plane_address_bits page = slice_index page 113 % 16

-- in microseconds
unfoldable pub t_prog : List ℕ → ℕ
t_prog page = two_bytes 133 page

-- in microseconds
unfoldable pub t_bers : List ℕ → ℕ
t_bers page = two_bytes 135 page

-- in microseconds
unfoldable pub t_r : List ℕ → ℕ
t_r page = two_bytes 137 page

-- in nanoseconds
unfoldable pub t_ccs : List ℕ → ℕ
t_ccs page = two_bytes 139 page

-- the check value that the page holds of its other bytes
unfoldable pub stored_crc : List ℕ → ℕ
stored_crc page = two_bytes 254 page
