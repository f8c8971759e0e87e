use Rattle.std.proofs.Common.{refl, sym, ap, ◌∙◌, subst}
use Rattle.std.specs.List.{AllByRecursion as Each}
use Rattle.onfi_run.specs.Answers.{IsSuited, submitted}
use Rattle.onfi_run.specs.Report.{places}
use Rattle.onfi_run.proofs.Suited.{each_changed, same_places, submitted_suited}
use Rattle.onfi_run.proofs.answers.Answers.send.Goals as goal

pub invariant_of-self : goal.invariant_of-self
invariant_of-self c =
    let all = c.self.inside.by_serial.items in
    subst (Each IsSuited) (sym c.submit_at.ensures)
    (each_changed IsSuited (submitted c.args.now) (submitted_suited c.args.now) all c.args.serial c.self.invariant)

pub returns-clause-same : goal.returns-clause-same
returns-clause-same c =
    let all = c.self.inside.by_serial.items in
    ap places c.submit_at.ensures ∙ same_places (submitted c.args.now) (λ d. refl) all c.args.serial ∙ ap places c.self.view_is
