use Rattle.std.proofs.Common.{ℕ, ◌≤◌, List, [], ◌∷◌, arith}
use Rattle.onfi_schedule.specs.Schedule.{Phase, latest}
use Rattle.onfi_schedule.specs.Slots.{phases_in}
use Rattle.onfi_schedule.proofs.slots.latest.Goals as goal

from_time : (t : ℕ) (ps : List Phase) → t ≤ latest t ps
from_time t [] = omega arith
from_time t (p ∷ ps) = omega (arith, from_time t ps)

pub loop-slot-init : goal.loop-slot-init
loop-slot-init c =
    let from = from_time c.args.time (phases_in c.args.slots.now) in
    record { from_time = omega arith; last = omega arith }
