use Rattle.std.proofs.Common.{sym, ap, ◌∙◌}
use Rattle.std.specs.Prelude.{◌==◌}
use Rattle.std.specs.List.{position}
use Rattle.onfi_audit.proofs.Leaving.{found_leaves, missed_leaves}
use Rattle.onfi_audit.proofs.waiting.Waiting.leave.Goals as goal

pub returns-in-Some : goal.returns-in-Some
returns-in-Some c = λ want same.
    let found = ap (position (λ w. w.id == c.args.number)) (sym c.as_slice.ensures.value) ∙ sym c.place_of.ensures ∙ c.in-Some.is in
    c.clear_gone.ensures ∙ c.take_out.ensures ∙ found_leaves c.args.self.now c.args.number want c.as_slice.ensures.rising same c.in-Some.at found

pub returns-in_default : goal.returns-in_default
returns-in_default c = λ want same.
    let missed = ap (position (λ w. w.id == c.args.number)) (sym c.as_slice.ensures.value) ∙ sym c.place_of.ensures ∙ c.in_default.is in
    missed_leaves c.args.self.now c.args.number want c.as_slice.ensures.rising same missed
