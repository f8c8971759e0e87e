use Rattle.std.proofs.Common.{◌≤◌, ◌+◌, ◌^◌, arith}
use Rattle.std.proofs.Math.Nat.{mul-le-mul_left, mul-le-mul_right}
use Rattle.onfi_timing.proofs.lengths.command_time.Goals as goal

pub overflow_mul-result : goal.overflow_mul-result
overflow_mul-result c =
    let columns = c.args.geometry.now.few_column_cycles in
    let rows = c.args.geometry.now.few_row_cycles in
    let few : 2 + c.from.result + c.from-2.result ≤ 32 = omega arith in
    let time : c.from-3.result ≤ 2 ^ 32 = omega arith in
    omega (arith, mul-le-mul_right c.from-3.result few, mul-le-mul_left 32 time)

pub returns-clause-small : goal.returns-clause-small
returns-clause-small c =
    let columns = c.args.geometry.now.few_column_cycles in
    let rows = c.args.geometry.now.few_row_cycles in
    let few : 2 + c.from.result + c.from-2.result ≤ 32 = omega arith in
    let time : c.from-3.result ≤ 2 ^ 32 = omega arith in
    omega (arith, mul-le-mul_right c.from-3.result few, mul-le-mul_left 32 time)
