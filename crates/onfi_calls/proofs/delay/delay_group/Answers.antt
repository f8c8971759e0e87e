use Rattle.std.proofs.Common.{length, take, sym, ap, ◌∙◌}
use Rattle.std.proofs.lemmas.List.{length-map}
use Rattle.onfi_flight.specs.Times.{later_starts}
use Rattle.onfi_script.specs.PlanLine.{want_named}
use Rattle.onfi_calls.specs.PlainSchedule.{filled}
use Rattle.onfi_calls.proofs.RanInPlace.{group_written, named_ids}
use Rattle.onfi_calls.proofs.delay.delay_group.Goals as goal

pub returns : goal.returns
returns c = λ wants.
    let ids = take c.args.said.now.members c.args.said.now.want in
    let count = ap (λ n. take n c.args.said.now.want) c.from.ensures in
    group_written (ap length count ∙ sym (length-map ids (want_named wants)))
    (c.fill_numbers.ensures ∙ ap (filled 4 0) (count ∙ sym (named_ids wants ids))) (c.delay_starts.ensures ∙ ap (λ xs. filled 8 0 (later_starts c.args.by xs)) c.starts_in.ensures.value)
