use Rattle.std.proofs.Common.{◌∙◌, ap, subst, sym}
use Rattle.onfi_problem.specs.Moves.{IsMove}
use Rattle.onfi_steady.specs.Next.{move_by}
use Rattle.onfi_steady.proofs.Placing.{begins_some}
use Rattle.onfi_steady.proofs.dispatch.step_of.Goals as goal

pub start_of-requires : goal.start_of-requires
start_of-requires c =
    let members = c.members-members.result.now in
    let e = ap (move_by c.args.phase.now.lun) (sym c.members-members.ensures.value) ∙ begins_some c.args.phase.now.lun members (sym c.is_empty.ensures ∙ c.if-is_empty.false) in
    subst (IsMove c.args.problem.now.problem) e c.requires.step
