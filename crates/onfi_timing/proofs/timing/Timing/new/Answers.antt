use Rattle.std.proofs.Common.{refl, arith}
use Rattle.onfi_timing.specs.Sectors.{least_post}
use Rattle.onfi_timing.proofs.Stated.{new_alike}
use Rattle.onfi_timing.proofs.timing.Timing.new.Goals as goal

pub invariant_of-result : goal.invariant_of-result
unfolding least_post
invariant_of-result c = record { long = refl; alike = new_alike c.args.read; least = refl; low = omega arith }
