-- A request has no fault exactly where the device takes it.
use Rattle.std.proofs.Common.{◌≡◌, ℕ, ◌<◌, inl, inr, true, false, length, None, refl, arith}
use Rattle.std.specs.Prelude.{nat_le, ◌==◌}
use Rattle.std.proofs.lemmas.Bool.{cases_Bool}
use Rattle.std.proofs.lemmas.Bool.Decides.{nat_tests}
use Rattle.onfi_addr.specs.declared.geometry.Geometry.{Geometry}
use Rattle.onfi_request.specs.Range.{Fits, pages_for, bytes_for, fault_of}
use Rattle.onfi_request.specs.Parts.{has_part}
use Rattle.onfi_request.specs.declared.request.Request.{Request}

pub below : (a b : ℕ) → nat_le a b ≡ false → b < a
below a b h = grind (arith, nat_tests)

-- a request without fault is in range
pub fits : (geometry : Geometry) (r : Request) → fault_of geometry r ≡ None → Fits geometry r
fits geometry r h =
    elim (cases_Bool (nat_le geometry.lun_count r.place.lun)) [
      | inl a ↦ (let h' = rw a at h in cc)
      | inr a ↦ elim (cases_Bool (nat_le geometry.blocks_per_lun r.place.block)) [
        | inl b ↦ (let h' = rw (a, b) at h in cc)
        | inr b ↦ elim (cases_Bool (nat_le (pages_for geometry r.kind) r.place.page)) [
          | inl c ↦ (let h' = rw (a, b, c) at h in cc)
          | inr c ↦ elim (cases_Bool (length r.bytes == bytes_for geometry r.kind)) [
            | inr d ↦ (let h' = rw (a, b, c, d) at h in cc)
            | inl d ↦ elim (cases_Bool (has_part geometry r.kind)) [
              | inr w ↦ (let h' = rw (a, b, c, d, w) at h in cc)
              | inl w ↦ record { lun = below _ _ a; block = below _ _ b; page = below _ _ c; data_length = grind (arith, nat_tests); part = w }
            ]
          ]
        ]
      ]
    ]

-- a request in range has no fault
pub no_fault : (geometry : Geometry) (r : Request) → Fits geometry r → fault_of geometry r ≡ None
no_fault geometry r f =
    let lun = f.lun in
    let block = f.block in
    let page = f.page in
    let count = f.data_length in
    let a : nat_le geometry.lun_count r.place.lun ≡ false = grind (arith, nat_tests) in
    let b : nat_le geometry.blocks_per_lun r.place.block ≡ false = grind (arith, nat_tests) in
    let c : nat_le (pages_for geometry r.kind) r.place.page ≡ false = grind (arith, nat_tests) in
    let d : (length r.bytes == bytes_for geometry r.kind) ≡ true = grind (arith, nat_tests) in
    rw (a, b, c, d, f.part) refl
