use Rattle.std.proofs.Common.{◌≡◌, true}
use Rattle.std.specs.Prelude.{◌==◌}
use Rattle.std.proofs.lemmas.Bool.{eq-eqb}
use Rattle.onfi_bound.proofs.chain.Chain.of.Goals as goal

pub returns-then-lun-eq0 : goal.returns-then-lun-eq0
returns-then-lun-eq0 c = let z : (c.args.lun.next == 0) ≡ true = eq-eqb c.args.lun.next 0 c.if-lun-eq0.true in rw z (c.free.ensures c.args.timing.now)
