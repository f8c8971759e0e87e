use Rattle.std.proofs.Common.{arith}
use Rattle.onfi_problem.specs.Moves.{after}
use Rattle.onfi_problem.specs.Position.{move_of}
use Rattle.onfi_problem.proofs.Limits.{after_limits}
use Rattle.onfi_bound.proofs.BusBound.{bus_after}
use Rattle.onfi_bound.proofs.Ends.{bus_small}
use Rattle.onfi_bound.proofs.node.bus_after.Goals as goal

pub overflow_add-result : goal.overflow_add-result
overflow_add-result c =
    let p = c.args.problem.now.problem in
    let m = move_of c.args.problem.now.groups c.args.m in
    let limits = c.bus_free.ensures.limits in
    let behind = bus_after p m limits.problem c.requires.step in
    let small = bus_small (after p m) (after_limits p m limits c.requires.step) in
    omega arith

pub returns : goal.returns
returns c =
    let p = c.args.problem.now.problem in
    let m = move_of c.args.problem.now.groups c.args.m in
    let behind = bus_after p m c.bus_free.ensures.limits.problem c.requires.step in
    omega arith
