use Rattle.std.proofs.Common.{sym, ap, ◌∙◌, subst}
use Rattle.std.specs.List.{AllByRecursion as Each}
use Rattle.onfi_run.specs.Answers.{IsSuited, came}
use Rattle.onfi_run.specs.Report.{places}
use Rattle.onfi_run.proofs.Suited.{came_place, came_suited, each_changed, same_places}
use Rattle.onfi_run.proofs.answers.Answers.keep.Goals as goal

pub invariant_of-self : goal.invariant_of-self
invariant_of-self c =
    let r = c.args.reply in
    let f = came c.args.now r.answer in
    subst (Each IsSuited) (sym c.come_at.ensures) (each_changed IsSuited f (came_suited c.args.now r.answer) c.self.inside.by_serial.items r.serial c.self.invariant)

pub returns-clause-same : goal.returns-clause-same
returns-clause-same c =
    let r = c.args.reply in
    ap places c.come_at.ensures ∙ same_places (came c.args.now r.answer) (came_place c.args.now r.answer) c.self.inside.by_serial.items r.serial ∙ ap places c.self.view_is
