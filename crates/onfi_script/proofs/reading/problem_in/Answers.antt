use Rattle.std.proofs.Common.{sym, ◌∙◌, refl}
use Rattle.onfi_script.specs.Answer.{TellsProblem, TellsSetup, goes_beyond, has_problem}
use Rattle.onfi_script.specs.SetupOf.{problem_of}
use Rattle.onfi_script.proofs.Scripts.{gives_more, no_device}
use Rattle.onfi_script.proofs.reading.problem_in.Goals as goal

pub returns-in-Err-clause-told : goal.returns-in-Err-clause-told
returns-in-Err-clause-told c = rw c.at.ensures (no_device c.args.rows.now c.in-Err.stop c.in-Err.ensures)

pub returns-in-Some-clause-told : goal.returns-in-Some-clause-told
returns-in-Some-clause-told c = rw c.at-in-Some.ensures (goes_beyond c.in-Ok.device c.in-Some.at c.in-Ok.ensures (sym c.in-Some.ensures) refl)

pub returns-clause-told : goal.returns-clause-told
returns-clause-told c =
    gives_more (λ p. p.problem) c.make_problem.result (TellsProblem c.args.rows.now (problem_of c.in-Ok-set_up.setup)) (TellsSetup c.args.rows.now)
    (λ told. has_problem c.in-Ok.device (problem_of c.in-Ok-set_up.setup) c.in-Ok.ensures (sym c.find_beyond.ensures ∙ c.in_default.is) c.in-Ok-set_up.ensures)
    c.make_problem.ensures.told
