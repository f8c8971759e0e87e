-- The sectors of a page that a kind names.
use Rattle.std.proofs.Common.{◌≡◌, ℕ, ◌+◌, ◌-◌, ◌*◌, ◌^◌, ◌<◌, ◌≤◌, true, false, List, length, refl, ◌∙◌, arith}
use Rattle.std.specs.Prelude.{min, ◌==◌}
use Rattle.std.proofs.lemmas.Bool.Decides.{nat_tests}
use Rattle.onfi_addr.specs.declared.geometry.Geometry.{Geometry}
use Rattle.onfi_addr.specs.Rows.{page_bytes_of}
use Rattle.onfi_timing.specs.declared.kind.Kind.{Kind}
use Rattle.onfi_timing.specs.declared.kind.Kind.TheVariants as kind
use Rattle.onfi_timing.specs.declared.operation.Operation.TheVariants as operation
use Rattle.onfi_timing.specs.Kinds.{operation_of, sectors_of}
use Rattle.onfi_request.specs.declared.answer.Answer.TheVariants.{Read}
use Rattle.onfi_request.specs.Parts.{bytes_out, has_part, has_sectors}
use Rattle.onfi_die.specs.Block.{length_out}
use Rattle.onfi_die.specs.Prepared.{IsAnswerTo}
use Rattle.onfi_die.specs.Shapes.{shape_of}

pub some_sectors : (g : Geometry) (first count : ℕ) → has_sectors g first count ≡ true → 1 ≤ count
some_sectors g first count h = grind (arith, nat_tests)

pub on_page : (g : Geometry) (first count : ℕ) → has_sectors g first count ≡ true → (first + count) * g.sector_bytes ≤ page_bytes_of g
on_page g first count h = grind (arith, nat_tests)

-- an output has all its bytes
all_there : (g : Geometry) (first count : ℕ) → has_sectors g first count ≡ true → length_out (shape_of g) (kind.ReadSectors first count) ≡ bytes_out g (kind.ReadSectors first count)
all_there g first count h =
    let some = some_sectors g first count h in
    let within = on_page g first count h in
    let not_none : (count == 0) ≡ false = grind (arith, nat_tests) in
    let least : min (count * g.sector_bytes) (page_bytes_of g - first * g.sector_bytes) ≡ count * g.sector_bytes = omega (arith, within) in
    rw (not_none, least) refl

-- what answers a read has as many bytes as it puts out
pub as_many_bytes : (g : Geometry) (k : Kind) (content : List ℕ) → has_part g k ≡ true → operation_of k ≡ operation.Read → IsAnswerTo (shape_of g) k (Read content) → length content ≡ bytes_out g k
as_many_bytes g kind.Read content p r h = h
as_many_bytes g (kind.ReadSectors first count) content p r h = h ∙ all_there g first count p
as_many_bytes g kind.Program content p r h = absurd cc
as_many_bytes g kind.Erase content p r h = absurd cc

-- sectors are read
pub is_sector_read : (k : Kind) → 1 ≤ sectors_of k → operation_of k ≡ operation.Read
is_sector_read kind.Read some = refl
is_sector_read (kind.ReadSectors first count) some = refl
is_sector_read kind.Program some = absurd (omega (arith, some))
is_sector_read kind.Erase some = absurd (omega (arith, some))

-- the column of the first sector is one of 16 bits
pub small_column : (g : Geometry) (first count : ℕ) → has_sectors g first count ≡ true → first * g.sector_bytes < 2 ^ 16
small_column g first count h =
    let within = on_page g first count h in
    let few = g.few_bytes in
    let sum : (first + count) * g.sector_bytes ≡ first * g.sector_bytes + count * g.sector_bytes = add_mul first count g.sector_bytes in
    omega (arith, within, few, sum)
  where
    add_mul : (a b c : ℕ) → (a + b) * c ≡ a * c + b * c
    add_mul a b c = omega arith
