use Rattle.std.proofs.Common.{length, sym, ap, ◌∙◌}
use Rattle.onfi_calls.specs.Delay.{others}
use Rattle.onfi_calls.proofs.RanInPlace.{length_removed}
use Rattle.onfi_calls.proofs.delay.count_left.Goals as goal

pub returns-in-Some : goal.returns-in-Some
returns-in-Some c =
    let low = c.requires.place c.in-Some.field-0 c.in-Some.is in
    sym (ap (λ o. length (others o c.args.said.now)) c.in-Some.is ∙ length_removed c.args.said.now c.in-Some.field-0 low)
