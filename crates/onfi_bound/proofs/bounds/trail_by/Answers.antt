use Rattle.std.proofs.Common.{arith}
use Rattle.std.proofs.lemmas.Grind.{common_steps}
use Rattle.onfi_timing.specs.declared.operation.Operation.TheVariants.{Read, Program, Erase}
use Rattle.onfi_bound.proofs.bounds.trail_by.Goals as goal

pub overflow_add-result : goal.overflow_add-result
overflow_add-result c = let r = c.requires.bus_free in let s = c.requires.commands in omega arith

pub returns : goal.returns
returns c = λ p timing bus commands operations.
    let r = operations Read in
    let w = operations Program in
    let e = operations Erase in
    grind (arith, common_steps)
