-- A device with strobes.
use Rattle.std.proofs.Common.{◌≤◌, ℕ, List, [], ◌∷◌, length, arith}
use Rattle.std.specs.Prelude.{IfOk, Result}
use Rattle.onfi_calls.specs.declared.device.PlainDevice.{PlainDevice}
use Rattle.onfi_calls.specs.declared.refusal.Refusal.{Refusal}
use Rattle.onfi_calls.specs.Device.{IsDeviceOf, IsStrobedDevice}

pub has_strobes : (bytes text rows : List ℕ) (sector_bytes : ℕ) (found : Result PlainDevice Refusal) → 1 ≤ length rows
    → IfOk found (λ d. IsStrobedDevice bytes text rows sector_bytes d) → IfOk found (λ d. IsDeviceOf bytes text rows sector_bytes d)
has_strobes bytes text [] sector_bytes found some is = absurd (omega (arith, some))
has_strobes bytes text (b ∷ rows) sector_bytes found some is = is
