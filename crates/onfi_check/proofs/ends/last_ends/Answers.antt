use Rattle.std.proofs.Common.{◌∙◌, ◌<◌, length, sym, length-set, arith}
use Rattle.onfi_problem.specs.declared.moves.Move.TheVariants.{Next}
use Rattle.onfi_problem.specs.Starts.{IsNamed}
use Rattle.onfi_check.proofs.LastEnds.{move_at, ends_more}
use Rattle.onfi_check.proofs.ends.last_ends.Goals as goal
use Rattle.onfi_bound.proofs.Steps.{all_at}

pub end_of-end-requires-clause-step : goal.end_of-end-requires-clause-step
end_of-end-requires-clause-step c = move_at c.args.problem.now.problem c.args.problem.now.groups c.args.moves.now c.loop-m.m-index (Next 0) c.loop-m-test.true c.requires.moves

pub loop-m-preserved : goal.loop-m-preserved
loop-m-preserved c =
    let x = c.args.problem.now in
    let named = all_at (IsNamed x.groups) c.args.moves.now c.loop-m.m-index (Next 0) c.loop-m-test.true c.requires.named in
    let few = named.few in
    let long = c.loop-m.invariant.long in
    let lun = c.lun-lun.ensures in
    let within : c.lun-lun.result < length c.loop-m.ends = omega arith in
    let more = ends_more x.problem x.groups c.args.moves.now c.loop-m.m-index c.lun-lun.result c.end_of-end.result (Next 0) c.loop-m.ends c.loop-m-test.true within (named.lun ∙ sym lun) c.end_of-end.ensures.value c.loop-m.invariant.ends in
    record { long = length-set c.loop-m.ends c.lun-lun.result c.choose_later.result ∙ long; ends = rw c.choose_later.ensures more }
