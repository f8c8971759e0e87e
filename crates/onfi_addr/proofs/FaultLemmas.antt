-- What a page without faults allows.
use Rattle.std.proofs.Common.{ℕ, ◌+◌, ◌*◌, ◌^◌, ◌<◌, ◌≤◌, List, inl, inr, arith}
use Rattle.std.proofs.Math.Pow.{pow_mono}
use Rattle.std.proofs.lemmas.Bool.{cases_lt}
use Rattle.onfi_param.specs.Fields.{data_bytes, pages_per_block, blocks_per_lun, lun_count, column_cycles, row_cycles, plane_address_bits}
use Rattle.onfi_addr.specs.Faults.{NoFault, page_bytes}
use Rattle.onfi_addr.specs.Limits.{IsWithinLimits}
use Rattle.onfi_addr.specs.declared.fault.GeometryFault.TheVariants.{LunCount, PlaneBits, Zero, RowTooWide, ColumnTooWide, TooLarge}

le_of_not : (a b : ℕ) → (b < a → ⊥) → a ≤ b
le_of_not a b h = elim (cases_lt b a) [ inl below ↦ absurd (h below) | inr over ↦ over ]

pub limits : (page : List ℕ) → NoFault page → IsWithinLimits page
limits page none = record {
  some_lun = le_of_not 1 (lun_count page) (λ h. none LunCount (inl (omega arith)));
  few_luns = le_of_not (lun_count page) 8 (λ h. none LunCount (inr h));
  few_planes = le_of_not (plane_address_bits page) 2 (none PlaneBits);
  some_page = le_of_not 1 (pages_per_block page) (λ h. none Zero (inl (omega arith)));
  few_pages = le_of_not (pages_per_block page) 4096 (λ h. none TooLarge (inl h));
  some_block = le_of_not 1 (blocks_per_lun page) (λ h. none Zero (inr (inl (omega arith))));
  few_blocks = le_of_not (blocks_per_lun page) 65536 (λ h. none TooLarge (inr (inl h)));
  some_data = le_of_not 1 (data_bytes page) (λ h. none Zero (inr (inr (omega arith))));
  few_bytes = le_of_not (page_bytes page) 65535 (λ h. none TooLarge (inr (inr h)));
  columns_fit = le_of_not (page_bytes page) (2 ^ (8 * column_cycles page)) (none ColumnTooWide);
  rows_fit = λ p b u pages blocks luns. le_of_not (p + b + u) (8 * row_cycles page) (λ h. none RowTooWide record {
    page_bits = p;
    pages = pages;
    block_bits = b;
    blocks = blocks;
    lun_bits = u;
    luns = luns;
    too_wide = h;
  });
}

-- five column cycles are enough for what a page can count
pub never_wide : (cycles bytes : ℕ) → 5 ≤ cycles → bytes < 2 ^ 33 → 2 ^ (8 * cycles) < bytes → ⊥
never_wide cycles bytes many few wide =
    let more : 40 ≤ 8 * cycles = omega arith in
    omega (arith, pow_mono {i = 40} {j = 8 * cycles} more)
