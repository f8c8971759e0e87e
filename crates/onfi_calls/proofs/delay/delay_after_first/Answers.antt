use Rattle.std.proofs.Common.{length, ap, ◌∙◌, arith}
use Rattle.std.specs.List.{list_any}
use Rattle.std.proofs.lemmas.List.{length-drop}
use Rattle.onfi_flight.specs.Times.{later_starts}
use Rattle.onfi_calls.specs.InOrder.{is_half}
use Rattle.onfi_calls.specs.PlainSchedule.{written_rest}
use Rattle.onfi_calls.proofs.RanInPlace.{none_behind, part_behind}
use Rattle.onfi_calls.proofs.delay.delay_after_first.Goals as goal

pub delay_rest-requires-clause-few : goal.delay_rest-requires-clause-few
delay_rest-requires-clause-few c =
    let part = ap length (part_behind 1 c.args.starts.now) in
    let less = length-drop 1 c.args.starts.now in
    let few = c.requires.few in
    omega (arith, part, less, few)

pub delay_rest-requires-clause-early : goal.delay_rest-requires-clause-early
delay_rest-requires-clause-early c = ap (list_any is_half) (part_behind 1 c.args.starts.now) ∙ none_behind is_half 1 c.args.starts.now c.requires.early

pub returns : goal.returns
returns c = c.delay_rest.ensures ∙ ap (λ xs. written_rest (later_starts c.args.by xs)) (part_behind 1 c.args.starts.now)
