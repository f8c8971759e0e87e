use Rattle.std.proofs.Common.{arith}
use Rattle.onfi_group.proofs.Placing.{length-joined}
use Rattle.onfi_group.proofs.listing.join.Goals as goal

pub returns-then-len-eq4-clause-none : goal.returns-then-len-eq4-clause-none
returns-then-len-eq4-clause-none c = λ g.
    let e = length-joined c.args.want.now c.args.group.now in
    let few = g.few in
    omega arith
