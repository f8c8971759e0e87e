use Rattle.onfi_schedule.proofs.Least.{legal_run}
use Rattle.onfi_bound.proofs.BusBound.{bus_bound}
use Rattle.onfi_bound.proofs.Ends.{bus_small}
use Rattle.onfi_bound.proofs.laws.bus_is_below.Goals as goal

pub returns : goal.returns
returns c = record {
  schedules = λ p s ip legal. let r = legal_run p s ip legal in bus_bound r.0 p _ ip r.1;
  runs = λ p steps f ip run. bus_bound steps p f ip run;
  small = bus_small;
}
