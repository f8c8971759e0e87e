use Rattle.std.proofs.Common.{◌∙◌, ap}
use Rattle.onfi_problem.specs.declared.start_marks.StartMarks.{StartMarks}
use Rattle.onfi_problem.specs.StartMarks.{are_met}
use Rattle.onfi_problem.proofs.Steps.{marks_tell}
use Rattle.onfi_problem.proofs.problem.Problem.can_start.Goals as goal

pub returns : goal.returns
returns c =
    let t = c.self.inside in
    let v = c.self.view_is in
    let within = rw (← v) at c.requires.within in
    let listed = rw (← v) at c.requires.listed in
    let tell = marks_tell t.timing t.rules t.bus_free t.luns.items t.wants.items t.waiting t.groups.items t.first t.start_marks.items
    c.self.invariant.0 c.self.invariant.1 c.args.place c.index.result.now within c.are_met.ensures.long listed in
    rw (← v) (c.are_met.ensures.met ∙ (ap (λ (z : StartMarks). are_met t.waiting z.asked z.members) c.index.ensures ∙ tell))
