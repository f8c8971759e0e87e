use Rattle.onfi_problem.specs.declared.moves.Lun.{Lun}
use Rattle.onfi_bound.proofs.Tallying.{state_at}
use Rattle.onfi_bound.proofs.Parts.{place_at}
use Rattle.onfi_bound.proofs.load.Load.first_die.Goals as goal

abbrev none : Lun
none = record { next = 0; place = 0; time = 0 }

pub die-at-requires-clause-place : goal.die-at-requires-clause-place
die-at-requires-clause-place c =
    let x = c.args.problem.now in
    place_at x.problem x.groups c.luns-state-items.result.now c.loop-lun.lun none c.in_limits.ensures.limits c.luns-state-items.ensures.states c.loop-lun-test.true

pub die-at-requires-clause-state : goal.die-at-requires-clause-state
die-at-requires-clause-state c = state_at c.args.problem.now.groups c.luns-state-items.result.now c.args.problem.now.problem.luns c.loop-lun.lun none c.luns-state-items.ensures.states c.loop-lun-test.true
