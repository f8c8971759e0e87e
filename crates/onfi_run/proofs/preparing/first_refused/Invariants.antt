use Rattle.onfi_run.proofs.Rows.{Passed}
use Rattle.onfi_run.proofs.preparing.first_refused.Given as goal

abbrev pub invariant-loop-at : goal.invariant-loop-at
invariant-loop-at l = Passed l.bounds.channels l.bounds.hosts l.bounds.geometry l.rows l.at
