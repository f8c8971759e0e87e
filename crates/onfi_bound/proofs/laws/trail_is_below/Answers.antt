use Rattle.onfi_schedule.proofs.Least.{legal_run}
use Rattle.onfi_bound.proofs.TrailBound.{trail_bound}
use Rattle.onfi_bound.proofs.Ends.{trail_small}
use Rattle.onfi_bound.proofs.laws.trail_is_below.Goals as goal

pub returns : goal.returns
returns c = record {
  schedules = λ p s v ip legal is. let r = legal_run p s ip legal in trail_bound r.0 p _ v ip is r.1;
  runs = λ p steps f v ip run is. trail_bound steps p f v ip is run;
  small = trail_small;
}
