use Rattle.std.proofs.Common.{[], ◌∙◌, ap, subst, sym}
use Rattle.std.specs.Prelude.{slice_index_or}
use Rattle.onfi_problem.specs.Moves.{IsMove, Start}
use Rattle.onfi_problem.specs.Position.{move_of}
use Rattle.onfi_steady.specs.Placing.{are_same}
use Rattle.onfi_steady.proofs.Placing.{one_group}
use Rattle.onfi_steady.proofs.dispatch.is_start.Goals as goal

pub returns-in-Start-clause-yes : goal.returns-in-Start-clause-yes
returns-in-Start-clause-yes c = λ yes.
    let x = c.args.problem.now in
    let g = slice_index_or x.groups c.in-Start.place [] in
    let is = ap (move_of x.groups) c.in-Start.is in
    let same = ap (λ z. are_same z c.args.members.now) (sym (c.members.ensures.value ∙ c.group.ensures)) ∙ (sym c.are_same.ensures ∙ yes) in
    is ∙ ap Start (one_group x.problem g c.args.members.now c.in_limits.ensures.limits.problem (subst (IsMove x.problem) is c.requires.step) c.requires.start same)
