-- Numbers that are a geometry's, and how wide its row addresses are.
use Rattle.std.proofs.Common.{◌≡◌, ◌↔◌, ℕ, ◌+◌, ◌-◌, ◌*◌, ◌%◌, ◌^◌, ◌<◌, ◌≤◌, inl, inr, arith}
use Rattle.std.specs.Prelude.{IsTrue, nat_lt}
use Rattle.std.proofs.Math.Pow.{pow_mono}
use Rattle.std.proofs.Math.Nat.{lt_of_lt_of_le}
use Rattle.std.proofs.lemmas.Bool.{cases_lt, lt-ltb, ltb-true}
use Rattle.onfi_addr.specs.Bits.{IsBitCount}
use Rattle.onfi_addr.specs.Rows.{IsInRange, row_of}
use Rattle.onfi_addr.specs.declared.geometry.Geometry.{Geometry}
use Rattle.onfi_addr.specs.declared.place.Place.{Place}
use Rattle.onfi_addr.proofs.RowLemmas.{packed_lt, page_within, block_within, lun_within}

-- one bit fewer isn't enough
pub bit_count_test : (count bits : ℕ) → bits ≤ 16 → count ≤ 2 ^ bits → 1 ≤ bits → IsTrue (nat_lt (1 * 2 ^ (bits - 1) % 4294967296) count) ↔ IsBitCount count bits
bit_count_test count bits few enough some =
    let fewer : bits - 1 ≤ 16 = omega arith in
    let small : 2 ^ (bits - 1) ≤ 2 ^ 16 = pow_mono fewer in
    let same : 1 * 2 ^ (bits - 1) % 4294967296 ≡ 2 ^ (bits - 1) = omega (arith, small) in (
      λ more.
          let above : 2 ^ (bits - 1) < count = ltb-true (2 ^ (bits - 1)) count (rw same at more) in
          record {
            enough = enough;
            least = λ fewer h. elim (cases_lt fewer bits) [
              | inl below ↦
                  let within : fewer ≤ bits - 1 = omega arith in
                  let less : 2 ^ fewer ≤ 2 ^ (bits - 1) = pow_mono within in
                  absurd (omega (arith, less, h, above))
              | inr over ↦ over
            ];
          },
      λ is. rw same (lt-ltb (2 ^ (bits - 1)) count (elim (cases_lt (2 ^ (bits - 1)) count) [
        | inl above ↦ above
        | inr fits ↦ (let least = is.least (bits - 1) fits in absurd (omega (arith, least)))
      ])),
    )

-- two address cycles reach all bytes of any page
pub two_cycles : (bytes cycles : ℕ) → bytes ≤ 65535 → 2 ≤ cycles → bytes ≤ 2 ^ (8 * cycles)
two_cycles bytes cycles few some =
    let more : 16 ≤ 8 * cycles = omega arith in
    let wide : 2 ^ 16 ≤ 2 ^ (8 * cycles) = pow_mono more in
    omega (arith, wide)

-- a row address has at most 31 bits
pub row_short : (g : Geometry) (place : Place) → IsInRange g place → row_of g place < 2 ^ 31
row_short g place there =
    let low = packed_lt g.page_bits g.block_bits g.lun_bits place.page place.block place.lun
    (page_within g place there) (block_within g place there) (lun_within g place there) in
    let bits : g.page_bits + g.block_bits + g.lun_bits ≤ 31 = omega (arith, g.few_page_bits, g.few_block_bits, g.few_lun_bits) in
    lt_of_lt_of_le low (pow_mono bits)
