-- Lengths of all that is put out.
use Rattle.std.proofs.Common.{◌≡◌, ℕ, ◌+◌, ◌*◌, ◌<◌, ◌≤◌, true, refl, arith}
use Rattle.std.specs.Prelude.{nat_le}
use Rattle.std.proofs.lemmas.Bool.Decides.{nat_tests}
use Rattle.onfi_addr.specs.declared.geometry.Geometry.{Geometry}
use Rattle.onfi_addr.specs.Rows.{page_bytes_of}
use Rattle.onfi_timing.specs.declared.kind.Kind.TheVariants.{Read, ReadSectors, Program, Erase}
use Rattle.onfi_timing.specs.declared.timing.Timing.{Timing}
use Rattle.onfi_timing.specs.Kinds.{states_count}
use Rattle.onfi_request.specs.Parts.{has_sectors}
use Rattle.onfi_chip.proofs.Parts.{on_page, some_sectors}
use Rattle.onfi_core.specs.Stated.{StatesParts}

few_sectors : (g : Geometry) (first count : ℕ) → has_sectors g first count ≡ true → count ≤ 7
few_sectors g first count h = grind (arith, nat_tests)

some_bytes : (g : Geometry) (first count : ℕ) → has_sectors g first count ≡ true → 1 ≤ g.sector_bytes
some_bytes g first count h = grind (arith, nat_tests)

-- sectors that a page has from some sector on, it has from its first
from_first : (g : Geometry) (first count : ℕ) → has_sectors g first count ≡ true → has_sectors g 0 count ≡ true
from_first g first count h =
    let some = some_sectors g first count h in
    let few = few_sectors g first count h in
    let bytes = some_bytes g first count h in
    let within = on_page g first count h in
    let fewer : (0 + count) * g.sector_bytes ≤ (first + count) * g.sector_bytes = earlier first count g.sector_bytes in
    let a : nat_le 1 count ≡ true = grind (arith, nat_tests) in
    let b : nat_le count 7 ≡ true = grind (arith, nat_tests) in
    let c : nat_le 1 g.sector_bytes ≡ true = grind (arith, nat_tests) in
    let d : nat_le ((0 + count) * g.sector_bytes) (page_bytes_of g) ≡ true = grind (arith, nat_tests) in
    rw (a, b, c, d) refl
  where
    earlier : (a b c : ℕ) → (0 + b) * c ≤ (a + b) * c
    earlier a b c =
        let sum : (a + b) * c ≡ a * c + b * c = omega arith in
        omega arith

-- where lengths of one to seven sectors are stated, they are of all that a page has
pub all_stated : (g : Geometry) (t : Timing) → ((count : ℕ) → 1 ≤ count → count < 8 → has_sectors g 0 count ≡ true → states_count t count ≡ true) → StatesParts g t
all_stated g t each Read p = refl
all_stated g t each (ReadSectors first count) p =
    let few = few_sectors g first count p in
    each count (some_sectors g first count p) (omega arith) (from_first g first count p)
all_stated g t each Program p = refl
all_stated g t each Erase p = refl
