use Rattle.onfi_problem.specs.declared.lun_state.LunState.TheVariants.{Free}
use Rattle.onfi_calls.specs.Problem.{state_of}
use Rattle.onfi_calls.proofs.Filled.{filled_more, filled_all}
use Rattle.onfi_calls.proofs.problem.few_states_of.Goals as goal

pub loop-at-preserved : goal.loop-at-preserved
loop-at-preserved c =
    filled_more (state_of c.args.plane_bits) 8 (Free 0) c.args.said.now c.loop-at.at _ c.state_of.result c.loop-at.states c.loop-at-test.true c.requires.few c.state_of.ensures c.loop-at.invariant

pub returns : goal.returns
returns c = filled_all (state_of c.args.plane_bits) 8 (Free 0) c.args.said.now c.loop-at.at c.loop-at.states c.loop-at-test.false c.loop-at.invariant
