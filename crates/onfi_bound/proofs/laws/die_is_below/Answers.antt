use Rattle.onfi_schedule.proofs.Least.{legal_run}
use Rattle.onfi_bound.proofs.DieBound.{die_bound}
use Rattle.onfi_bound.proofs.Ends.{die_small}
use Rattle.onfi_bound.proofs.laws.die_is_below.Goals as goal

pub returns : goal.returns
returns c = record {
  schedules = λ p s lun ip legal within. let r = legal_run p s ip legal in die_bound r.0 p _ lun ip within r.1;
  runs = λ p steps f lun ip run within. die_bound steps p f lun ip within run;
  small = die_small;
}
