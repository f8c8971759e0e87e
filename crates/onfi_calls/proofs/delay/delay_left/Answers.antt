use Rattle.std.proofs.Common.{drop, map, ap, ◌∙◌}
use Rattle.std.specs.Prelude.{slice_set}
use Rattle.onfi_flight.specs.Times.{later_starts}
use Rattle.onfi_calls.specs.Delay.{later_rest}
use Rattle.onfi_calls.specs.PlainSchedule.{filled, no_rest, written_rest}
use Rattle.onfi_calls.proofs.RanInPlace.{rests_then}
use Rattle.onfi_calls.proofs.delay.delay_left.Goals as goal

pub returns : goal.returns
returns c = λ wants.
    let all = filled 8 no_rest (map (later_rest c.args.by) c.args.said.now) in
    let left = written_rest (later_starts c.args.by (drop 1 c.starts_due.result.now)) in
    ap (λ xs. slice_set xs c.from.result c.delay_after_first.result) c.delay_rests-rest.ensures ∙ ap (slice_set all c.from.result) c.delay_after_first.ensures ∙ ap (λ i. slice_set all i left) c.from.ensures
    ∙ rests_then c.args.by wants c.args.said.now c.args.groups.now c.args.due.now c.starts_due.result.now c.requires.lun (c.starts_due.ensures.value wants)
