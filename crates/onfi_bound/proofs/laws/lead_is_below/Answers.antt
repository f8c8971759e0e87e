use Rattle.onfi_schedule.proofs.Least.{legal_run}
use Rattle.onfi_bound.proofs.LeadBound.{lead_bound}
use Rattle.onfi_bound.proofs.Ends.{lead_small}
use Rattle.onfi_bound.proofs.laws.lead_is_below.Goals as goal

pub returns : goal.returns
returns c = record {
  schedules = λ p s ip legal. let r = legal_run p s ip legal in lead_bound r.0 p _ ip r.1;
  runs = λ p steps f ip run. lead_bound steps p f ip run;
  small = lead_small;
}
