use Rattle.std.proofs.Common.{◌≡◌, [], replicate, arith, subst}
use Rattle.onfi_schedule.proofs.schedule.no_starts.Goals as goal

pub returns : goal.returns
returns c =
    let all : c.loop.counter ≡ c.args.luns = omega (arith, c.loop-test.false, c.loop.auto.counter-end) in
    subst (λ n. c.loop.rest.items ≡ replicate n []) all c.loop.invariant
