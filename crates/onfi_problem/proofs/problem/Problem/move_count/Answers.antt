use Rattle.std.proofs.Common.{◌∙◌, length, sym, ap}
use Rattle.std.proofs.lemmas.List.{length-map}
use Rattle.onfi_problem.specs.Position.{move_of, moves_of}
use Rattle.onfi_problem.proofs.OneList.{one_list}
use Rattle.onfi_problem.proofs.problem.Problem.move_count.Goals as goal

pub returns-clause-count : goal.returns-clause-count
returns-clause-count c = λ moves are.
    let x = c.args.self.now in
    let same = one_list x.problem (moves_of x.groups c.steps.result) moves c.steps.ensures.moves are in
    c.len.ensures.value ∙ (sym (length-map c.steps.result (move_of x.groups)) ∙ ap length same)
