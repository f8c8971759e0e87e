use Rattle.std.proofs.Common.{refl, subst}
use Rattle.std.specs.Prelude.{map}
use Rattle.std.proofs.lemmas.Option.{slice_get_read}
use Rattle.onfi_problem.proofs.Lists.{map_get}
use Rattle.onfi_schedule.specs.Schedule.{Placed}
use Rattle.onfi_flight.specs.Turns.{SoonerOf}
use Rattle.onfi_flight.proofs.Turns.{so_far_one}
use Rattle.onfi_flight.proofs.turn.least_group.Goals as goal

pub loop-at-preserved : goal.loop-at-preserved
loop-at-preserved c =
    let there = slice_get_read c.args.groups.now _ c.loop-at.at c.index-groups-at.result refl c.loop-at-test.true c.index-groups-at.is in
    record {
      least = so_far_one (map (λ (g : Placed). g.starts) c.args.groups.now) c.loop-at.at c.loop-at.least _ c.index-groups-at.result.starts c.loop-at.invariant.least
          (map_get (λ (x : Placed). x.starts) c.args.groups.now c.loop-at.at c.index-groups-at.result there)
          (subst (λ xs. SoonerOf c.loop-at.least c.loop-at.at xs c.choose_sooner_of-least.result) c.starts.ensures c.choose_sooner_of-least.ensures.sooner);
      time = c.choose_sooner_of-least.ensures.time;
    }
