use Rattle.std.proofs.Common.{◌≡◌, ◌++◌, drop}
use Rattle.onfi_run.specs.Answers.{awaiting}
use Rattle.onfi_run.specs.Arriving.{expected_from, expected_on}
use Rattle.onfi_run.proofs.answers.await_answers_on.Given as goal

abbrev pub invariant-loop-row : goal.invariant-loop-row
invariant-loop-row l = awaiting (expected_on l.rows l.host l.channel) ≡ l.places.items ++ awaiting (expected_from l.arrives (drop l.row-index l.rows) l.host l.channel)
