use Rattle.std.proofs.Common.{◌≡◌, true}
use Rattle.onfi_demand.specs.Work.{left_of}
use Rattle.onfi_demand.specs.declared.left.LunLeft.TheVariants.{Idle}
use Rattle.onfi_known_check.proofs.Marks.{map_at}
use Rattle.onfi_known_check.proofs.known.are_alike.Goals as goal

pub returns-then-not-is_same : goal.returns-then-not-is_same
returns-then-not-is_same c = (λ t. cc, λ e. let t : c.is_same.result ≡ true = c.is_same.ensures.1 (map_at left_of c.args.lefts.now c.args.others.now c.loop-i.i Idle c.loop-i-test.true c.if-lefts-others.false e) in let f = c.if-not-is_same.true in cc)
