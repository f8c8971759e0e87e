use Rattle.std.proofs.Common.{◌≡◌, true}
use Rattle.std.specs.Prelude.{◌==◌}
use Rattle.std.proofs.lemmas.Bool.{eq-eqb}
use Rattle.onfi_problem.specs.Position.{state_of}
use Rattle.onfi_bound.proofs.tally.Tally.add_lun.Goals as goal

pub add-requires-clause-chain : goal.add-requires-clause-chain
add-requires-clause-chain c =
    let z : (c.args.state.next == 0) ≡ true = eq-eqb c.args.state.next 0 c.if-state-eq0.true in
    (state_of c.args.problem.now.groups c.args.state, c.requires.state, rw z (c.free.ensures c.args.problem.now.problem.timing))
