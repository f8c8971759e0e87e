use Rattle.std.proofs.Common.{arith}
use Rattle.onfi_request.specs.declared.want.Want.{Want}
use Rattle.onfi_timing.specs.declared.kind.Kind.TheVariants.{Read}
use Rattle.onfi_problem.specs.Left.{want_time}
use Rattle.onfi_problem.proofs.Sums.{one_more}
use Rattle.onfi_problem.proofs.horizon.wants_time.Goals as goal

pub loop-want-preserved : goal.loop-want-preserved
loop-want-preserved c =
    let blank : Want = record { id = 0; kind = Read; lun = 0; plane = 0; block = 0; page = 0 } in
    record {
      value = one_more (want_time c.args.timing.now) c.args.wants.now c.loop-want.want-index blank c.loop-want.total c.want_time-total.result c.loop-want-test.true c.loop-want.invariant.value c.want_time-total.ensures.value;
      small = omega arith;
    }
