-- Row addresses as numbers of three fields.
use Rattle.std.proofs.Common.{◌≡◌, ℕ, ◌+◌, ◌*◌, ◌/◌, ◌%◌, ◌^◌, ◌<◌, ◌≤◌, arith, ap, sym, ◌∙◌, refl}
use Rattle.std.proofs.Math.Pow.{pow_mono, pow-add, high, low, shr-shr, split, shl_exact, shl_lt}
use Rattle.std.proofs.Math.Nat.{mul-le-mul_left, lt_of_lt_of_le}
use Rattle.onfi_addr.specs.declared.geometry.Geometry.{Geometry}
use Rattle.onfi_addr.specs.declared.place.Place.{Place}
use Rattle.onfi_addr.specs.Rows.{IsInRange, row_of}

joined_lt : (j k x y : ℕ) → x < 2 ^ j → y < 2 ^ k → x * 2 ^ k + y < 2 ^ (j + k)
joined_lt j k x y h l = rw pow-add (omega (arith, mul-le-mul_left (2 ^ k) h))

-- the fields one above the other
abbrev pub packed : ℕ → ℕ → ℕ → ℕ → ℕ → ℕ
packed p b page block lun = page + block * 2 ^ p + lun * 2 ^ (p + b)

-- the page, and what stands above it
packed_above : (p b page block lun : ℕ) → packed p b page block lun ≡ (lun * 2 ^ b + block) * 2 ^ p + page
packed_above p b page block lun =
    let power : 2 ^ (p + b) ≡ 2 ^ p * 2 ^ b = pow-add 2 p b in
    rw power (omega arith)

pub page_back : (p b page block lun : ℕ) → page < 2 ^ p → packed p b page block lun % 2 ^ p ≡ page
page_back p b page block lun h =
    ap (λ n. n % 2 ^ p) (packed_above p b page block lun) ∙ low (lun * 2 ^ b + block) p h

above_back : (p b page block lun : ℕ) → page < 2 ^ p → packed p b page block lun / 2 ^ p ≡ lun * 2 ^ b + block
above_back p b page block lun h =
    ap (λ n. n / 2 ^ p) (packed_above p b page block lun) ∙ high (lun * 2 ^ b + block) p h

pub block_back : (p b page block lun : ℕ) → page < 2 ^ p → block < 2 ^ b → packed p b page block lun / 2 ^ p % 2 ^ b ≡ block
block_back p b page block lun h k = ap (λ n. n % 2 ^ b) (above_back p b page block lun h) ∙ low lun b k

pub lun_back : (p b page block lun : ℕ) → page < 2 ^ p → block < 2 ^ b → packed p b page block lun / 2 ^ (p + b) ≡ lun
lun_back p b page block lun h k =
    sym (shr-shr (packed p b page block lun) p b) ∙ ap (λ n. n / 2 ^ b) (above_back p b page block lun h) ∙ high lun b k

-- a row is its fields one above the other
pub packed_again : (p b row : ℕ) → packed p b (row % 2 ^ p) (row / 2 ^ p % 2 ^ b) (row / 2 ^ (p + b)) ≡ row
packed_again p b row =
    packed_above p b (row % 2 ^ p) (row / 2 ^ p % 2 ^ b) (row / 2 ^ (p + b))
    ∙ ap (λ n. (n * 2 ^ b + row / 2 ^ p % 2 ^ b) * 2 ^ p + row % 2 ^ p) (sym (shr-shr row p b))
    ∙ ap (λ n. n * 2 ^ p + row % 2 ^ p) (split (row / 2 ^ p) b)
    ∙ split row p

-- fields within their bits are a number within all bits
pub packed_lt : (p b u page block lun : ℕ) → page < 2 ^ p → block < 2 ^ b → lun < 2 ^ u → packed p b page block lun < 2 ^ (p + b + u)
packed_lt p b u page block lun hp hb hu =
    let all = joined_lt (u + b) p (lun * 2 ^ b + block) page (joined_lt u b lun block hu hb) hp in
    let bits : u + b + p ≡ p + b + u = omega arith in
    rw (packed_above, ← bits) all

-- a shift that loses nothing
pub shifted_whole : (a j k : ℕ) → a < 2 ^ j → j + k ≤ 64 → a * 2 ^ k % 2 ^ 64 ≡ a * 2 ^ k
shifted_whole a j k h fits = shl_exact j k 64 h fits

pub shifted_lt : (a j k n : ℕ) → a < 2 ^ j → j + k ≤ n → a * 2 ^ k < 2 ^ n
shifted_lt a j k n h fits = lt_of_lt_of_le (shl_lt j k h) (pow_mono fits)

-- what is in range lies within the bits
pub page_within : (geometry : Geometry) (place : Place) → IsInRange geometry place → place.page < 2 ^ geometry.page_bits
page_within geometry place there = omega (arith, there.page_there, geometry.least_page_bits.enough)

pub block_within : (geometry : Geometry) (place : Place) → IsInRange geometry place → place.block < 2 ^ geometry.block_bits
block_within geometry place there = omega (arith, there.block_there, geometry.least_block_bits.enough)

pub lun_within : (geometry : Geometry) (place : Place) → IsInRange geometry place → place.lun < 2 ^ geometry.lun_bits
lun_within geometry place there = omega (arith, there.lun_there, geometry.least_lun_bits.enough)

pub row_fits : (geometry : Geometry) (place : Place) → IsInRange geometry place → row_of geometry place < 2 ^ (8 * geometry.row_address_cycles)
row_fits geometry place there =
    let low = packed_lt geometry.page_bits geometry.block_bits geometry.lun_bits place.page place.block place.lun
    (page_within geometry place there) (block_within geometry place there) (lun_within geometry place there) in
    lt_of_lt_of_le low (pow_mono geometry.rows_fit)

-- the fields of a row are the numbers of its place
pub record FieldsOf (geometry : Geometry) (row : ℕ) (place : Place) : Type 0 where
  pub page_is : place.page ≡ row % 2 ^ geometry.page_bits
  pub block_is : place.block ≡ row / 2 ^ geometry.page_bits % 2 ^ geometry.block_bits
  pub lun_is : place.lun ≡ row / 2 ^ (geometry.page_bits + geometry.block_bits)

pub fields_of : (geometry : Geometry) (row : ℕ) (place : Place) → IsInRange geometry place → row_of geometry place ≡ row → FieldsOf geometry row place
fields_of geometry row place there same =
    let p = geometry.page_bits in
    let b = geometry.block_bits in
    let page_low = page_within geometry place there in
    let block_low = block_within geometry place there in
    record {
      page_is = sym (page_back p b place.page place.block place.lun page_low) ∙ ap (λ n. n % 2 ^ p) same;
      block_is = sym (block_back p b place.page place.block place.lun page_low block_low) ∙ ap (λ n. n / 2 ^ p % 2 ^ b) same;
      lun_is = sym (lun_back p b place.page place.block place.lun page_low block_low) ∙ ap (λ n. n / 2 ^ (p + b)) same;
    }

-- the byte above
pub next_byte : (row cycle : ℕ) → row / 2 ^ (8 * cycle) / 256 ≡ row / 2 ^ (8 * (cycle + 1))
next_byte row cycle =
    let up : 8 * cycle + 8 ≡ 8 * (cycle + 1) = omega arith in
    shr-shr row (8 * cycle) 8 ∙ ap (λ n. row / 2 ^ n) up

pub place_is : (place : Place) (lun block page : ℕ) → lun ≡ place.lun → block ≡ place.block → page ≡ place.page
    → record { lun = lun; block = block; page = page } ≡ place
place_is place lun block page luns blocks pages = rw (luns, blocks, pages) refl
