use Rattle.std.proofs.Common.{◌≡◌, ap, get_or}
use Rattle.onfi_problem.proofs.Sums.{latest_more}
use Rattle.onfi_problem.specs.Checks.{time_of}
use Rattle.onfi_problem.proofs.horizon.latest_wait.Goals as goal

pub loop-state-preserved : goal.loop-state-preserved
loop-state-preserved c =
    let m = latest_more c.args.bus_free c.args.luns.now c.loop-state.state-index c.state-item.result c.loop-state-test.true in
    let i : time_of c.state-item.result ≡ time_of (get_or c.args.luns.now c.loop-state.state-index c.state-item.result) = ap time_of c.state-item.is in
    let t = c.time_of.ensures in let x = c.max-latest.ensures in let v = c.loop-state.invariant in
    cc
