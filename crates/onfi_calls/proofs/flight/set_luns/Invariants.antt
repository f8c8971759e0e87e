use Rattle.std.proofs.Common.{◌≡◌, length, map, take}
use Rattle.onfi_problem.specs.declared.lun_state.LunState.TheVariants.{Free}
use Rattle.onfi_calls.specs.Problem.{state_of}
use Rattle.onfi_calls.specs.PlainSchedule.{filled}
use Rattle.onfi_calls.proofs.flight.set_luns.Given as goal

abbrev pub invariant-loop-at : goal.invariant-loop-at
invariant-loop-at l = record {
  timing : l.flight.now.timing ≡ l.initial.flight.now.timing;
  rules : l.flight.now.rules ≡ l.initial.flight.now.rules;
  bus_free : l.flight.now.bus_free ≡ l.initial.flight.now.bus_free;
  luns : l.flight.now.luns ≡ filled (length l.luns) (Free 0) (map (state_of l.plane_bits) (take l.at l.luns));
}
