use Rattle.std.proofs.Common.{arith}
use Rattle.onfi_known_check.proofs.Sound.{with_above}
use Rattle.onfi_known_check.proofs.standing.Standing.time_of.Goals as goal

pub loop-y-init : goal.loop-y-init
loop-y-init c = let a = with_above c.args.self.now.asked c.args.self.now.given.items c.args.lun in record { value = omega arith; small = omega (arith, c.asked_of-time.type_inv); above = omega arith }
