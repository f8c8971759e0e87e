use Rattle.std.proofs.Common.{◌+◌, ◌^◌, ◌<◌, arith}
use Rattle.onfi_timing.specs.declared.operation.Operation.TheVariants.{Read, Program, Erase}
use Rattle.onfi_bound.proofs.commands.Commands.with.Goals as goal

pub overflow_add-result : goal.overflow_add-result
overflow_add-result c = let h : c.args.self.read + c.args.number < 2 ^ 8 = c.requires Read in omega arith

pub overflow_add-result-in-Program : goal.overflow_add-result-in-Program
overflow_add-result-in-Program c = let h : c.args.self.program + c.args.number < 2 ^ 8 = c.requires Program in omega arith

pub overflow_add-result-in-Erase : goal.overflow_add-result-in-Erase
overflow_add-result-in-Erase c = let h : c.args.self.erase + c.args.number < 2 ^ 8 = c.requires Erase in omega arith
