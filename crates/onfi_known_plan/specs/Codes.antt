-- What the number of a LUN in a node's key says: two bits of the operation, two of the members, three of the next phase.
use Rattle.std.specs.Prelude.{◌≡◌, ℕ, ◌+◌, ◌/◌, ◌%◌, ◌==◌, ◌≤◌, if◌then◌else◌}
use Rattle.onfi_timing.specs.declared.operation.Operation.{Operation}
use Rattle.onfi_timing.specs.declared.operation.Operation.TheVariants.{Read, Program, Erase}
use Rattle.onfi_demand.specs.declared.left.LunLeft.{LunLeft}
use Rattle.onfi_demand.specs.declared.left.LunLeft.TheVariants.{Idle, Rest}

abbrev pub coded_operation : ℕ → Operation
coded_operation place = if place == 1 then Read else (if place == 2 then Program else Erase)

-- what is left to a LUN but for sectors, as its number says it; so no two that differ in more have one number
abbrev pub IsCode : ℕ → LunLeft → Type 0
IsCode code Idle = code ≡ 0
IsCode code (Rest operation members next sectors) = (1 ≤ code) × (coded_operation (code % 4) ≡ operation) × (code / 4 % 4 + 1 ≡ members) × (code / 16 ≡ next)
