use Rattle.std.proofs.Common.{◌∙◌, sym, ap}
use Rattle.std.specs.Prelude.{slice_get}
use Rattle.std.specs.Option.{option_map}
use Rattle.std.proofs.lemmas.Option.{slice_get-map}
use Rattle.onfi_problem.specs.Position.{move_of, moves_of}
use Rattle.onfi_problem.specs.Starts.{IsNamed}
use Rattle.onfi_problem.specs.Moves.{IsMove}
use Rattle.onfi_problem.proofs.Lists.{some_of_all, All-map}
use Rattle.onfi_problem.proofs.OneList.{one_list}
use Rattle.onfi_problem.proofs.problem.Problem.move_at.Goals as goal

pub returns-clause-value : goal.returns-clause-value
returns-clause-value c = λ moves are.
    let x = c.args.self.now in
    let same = one_list x.problem (moves_of x.groups c.steps.result) moves c.steps.ensures.moves are in
    ap (option_map (move_of x.groups)) c.get.ensures ∙ (sym (slice_get-map (move_of x.groups) c.steps.result c.args.at) ∙ ap (λ z. slice_get z c.args.at) same)

pub returns-clause-named : goal.returns-clause-named
returns-clause-named c =
    let x = c.args.self.now in
    rw c.get.ensures (some_of_all (IsNamed x.groups) c.steps.result c.args.at c.steps.ensures.named)

pub returns-clause-move_of_it : goal.returns-clause-move_of_it
returns-clause-move_of_it c =
    let x = c.args.self.now in
    rw c.get.ensures (some_of_all (λ m. IsMove x.problem (move_of x.groups m)) c.steps.result c.args.at (All-map (move_of x.groups) (IsMove x.problem) c.steps.result c.steps.ensures.moves.moves_only))
