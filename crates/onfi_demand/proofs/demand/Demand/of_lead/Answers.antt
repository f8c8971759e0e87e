use Rattle.std.proofs.Common.{refl, arith}
use Rattle.onfi_demand.proofs.Leading.{lead_kept, lead_idle}
use Rattle.onfi_demand.proofs.demand.Demand.of_lead.Goals as goal

pub returns-then-some : goal.returns-then-some
returns-then-some c =
    let p = c.args.problem.now.problem in
    let at = c.loop-lun.invariant in
    let s = at.some c.if-some.true in
    let below = s.1 in
    lead_kept p c.args.e s.0 _ c.loop-lun.luns (omega arith) s.2 refl refl (λ l h. at.value l (omega arith)) (λ l h. at.rest l (omega arith))

pub returns-else-some : goal.returns-else-some
returns-else-some c =
    let p = c.args.problem.now.problem in
    let at = c.loop-lun.invariant in
    lead_idle p c.args.e c.of_bus.result c.of_bus.ensures (λ l h. at.none c.if-some.false l (omega arith))
