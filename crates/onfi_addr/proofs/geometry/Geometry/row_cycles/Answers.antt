use Rattle.std.proofs.Common.{◌≢◌, ◌/◌, ◌%◌, ◌<◌, length, ap, ◌∙◌, arith, below_more, get_or-set_other, get_or-set_same}
use Rattle.std.proofs.Math.ListN.{length-set}
use Rattle.onfi_addr.proofs.RowLemmas.{next_byte}
use Rattle.onfi_addr.proofs.geometry.Geometry.row_cycles.Goals as goal

pub loop-cycle-preserved : goal.loop-cycle-preserved
loop-cycle-preserved c = record {
  rest = ap (λ n. n / 256) c.loop-cycle.invariant.rest ∙ next_byte c.args.row c.loop-cycle.cycle;
  whole = simp length-set c.loop-cycle.invariant.whole;
  written = below_more _ _
      (λ k h. let other : k ≢ c.loop-cycle.cycle = omega arith in rw get_or-set_other (c.loop-cycle.invariant.written k h))
      (let there : c.loop-cycle.cycle < length c.loop-cycle.cycles = omega (arith, c.loop-cycle.invariant.whole) in rw get_or-set_same (ap (λ n. n % 256) c.loop-cycle.invariant.rest));
}
