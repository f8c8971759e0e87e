use Rattle.std.proofs.Common.{refl}
use Rattle.std.proofs.lemmas.Option.{slice_get_read}
use Rattle.onfi_flight.proofs.Turns.{so_far_one}
use Rattle.onfi_flight.proofs.turn.least_rest.Goals as goal

pub loop-at-preserved : goal.loop-at-preserved
loop-at-preserved c = record {
  least = so_far_one c.args.rest.now c.loop-at.at c.loop-at.least _ c.index-rest-at.result c.loop-at.invariant.least
      (slice_get_read c.args.rest.now _ c.loop-at.at c.index-rest-at.result refl c.loop-at-test.true c.index-rest-at.is) c.choose_sooner_of-least.ensures.sooner;
  time = c.choose_sooner_of-least.ensures.time;
}
