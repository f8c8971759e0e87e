use Rattle.std.proofs.Common.{◌≡◌, length, map, take, sym, ap, ◌∙◌, arith, length-take-le}
use Rattle.std.proofs.lemmas.List.{length-map}
use Rattle.onfi_problem.specs.declared.lun_state.LunState.TheVariants.{Free}
use Rattle.onfi_flight.specs.Flight.{Flight}
use Rattle.onfi_calls.specs.Problem.{state_of}
use Rattle.onfi_calls.specs.PlainSchedule.{filled}
use Rattle.onfi_calls.proofs.Filled.{filled_all, filled_length, filled_more, filled_whole}
use Rattle.onfi_calls.proofs.flight.set_luns.Goals as goal

pub set_lun-requires : goal.set_lun-requires
set_lun-requires c =
    let f = state_of c.args.plane_bits in
    let low = c.loop-at-test.true in
    let taken : length (take c.loop-at.at c.args.luns.now) ≡ c.loop-at.at = length-take-le c.loop-at.at c.args.luns.now (omega (arith, low)) in
    let mapped = length-map (take c.loop-at.at c.args.luns.now) f in
    let all = filled_length (length c.args.luns.now) (Free 0) (map f (take c.loop-at.at c.args.luns.now)) (omega (arith, taken, mapped, low)) in
    let same = ap length c.loop-at.invariant.luns in
    omega (arith, low, same, all)

pub loop-at-preserved : goal.loop-at-preserved
loop-at-preserved c =
    let f = state_of c.args.plane_bits in
    record {
      timing = ap (λ (x : Flight). x.now.timing) c.set_lun.ensures ∙ c.loop-at.invariant.timing;
      rules = ap (λ (x : Flight). x.now.rules) c.set_lun.ensures ∙ c.loop-at.invariant.rules;
      bus_free = ap (λ (x : Flight). x.now.bus_free) c.set_lun.ensures ∙ c.loop-at.invariant.bus_free;
      luns = ap (λ (x : Flight). x.now.luns) c.set_lun.ensures
          ∙ filled_more f (length c.args.luns.now) (Free 0) c.args.luns.now c.loop-at.at _ c.state_of-state.result c.loop-at.flight.now.luns c.loop-at-test.true (omega arith) c.state_of-state.ensures
          c.loop-at.invariant.luns;
    }

pub returns-clause-luns : goal.returns-clause-luns
returns-clause-luns c =
    let f = state_of c.args.plane_bits in
    let all = filled_all f (length c.args.luns.now) (Free 0) c.args.luns.now c.loop-at.at c.loop-at.flight.now.luns c.loop-at-test.false c.loop-at.invariant.luns in
    let size : length (map f c.args.luns.now) ≡ length c.args.luns.now = length-map c.args.luns.now f in
    all ∙ ap (λ n. filled n (Free 0) (map f c.args.luns.now)) (sym size) ∙ filled_whole (Free 0) (map f c.args.luns.now)
