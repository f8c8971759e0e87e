use Rattle.onfi_calls.specs.ReadSchedule.{rest_of}
use Rattle.onfi_calls.proofs.InPlace.{least_more}
use Rattle.onfi_calls.proofs.least.least_rest.Goals as goal

pub loop-at-preserved : goal.loop-at-preserved
loop-at-preserved c = least_more rest_of c.args.rests.now c.loop-at.at _ c.loop-at.least c.choose_sooner_rest-least.result c.loop-at-test.true c.loop-at.invariant c.choose_sooner_rest-least.ensures
