use Rattle.std.proofs.Common.{arith}
use Rattle.onfi_calls.proofs.Geometries.{row_short}
use Rattle.onfi_calls.proofs.row.row_in.Goals as goal

pub overflow_cast-result : goal.overflow_cast-result
overflow_cast-result c =
    let short = row_short c.args.geometry.now c.args.place.now c.requires in
    record { fits = omega (arith, short, c.row.ensures.value) }
