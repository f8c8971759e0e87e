use Rattle.std.proofs.Common.{◌≡◌, length, refl, rules}
use Rattle.onfi_problem.specs.Moves.{IsMove}
use Rattle.onfi_problem.specs.Position.{move_of, moves_of}
use Rattle.onfi_problem.proofs.Lists.{All-map}
use Rattle.onfi_planner.proofs.Growing.{yields_small}
use Rattle.onfi_planner.proofs.Splitting.{branches_all}
use Rattle.onfi_planner.proofs.branches.write_branches.Goals as goal

pub do_in_turn-branches-requires-clause-may : goal.do_in_turn-branches-requires-clause-may
do_in_turn-branches-requires-clause-may g c = λ _ _ i lt.
    let x = c.args.root.now.problem in (
      lt,
      c.requires.limits,
      c.requires.loads,
      c.requires.least,
      All-map (move_of x.groups) (IsMove x.problem) c.args.steps.now c.requires.moves.moves_only,
      c.requires.named,
      (λ lun to e. yields_small x.problem (moves_of x.groups c.args.steps.now) c.yields_of-yields.result lun lun to c.requires.moves c.yields_of-yields.ensures.yields c.requires.limits.small.few_luns refl e),
    )

pub returns : goal.returns
returns g c =
    let x = c.args.root.now.problem in
    let long : length c.in-Ok.branches.items ≡ length c.args.steps.now = search rules in (
      c.yields_of-yields.result,
      c.yields_of-yields.ensures.yields,
      branches_all _ _ x c.args.root.now.best.finish c.yields_of-yields.result c.args.steps.now c.in-Ok.branches.items c.in-Ok.ensures.answers long (λ k d v lt gives. gives.met d),
    )
