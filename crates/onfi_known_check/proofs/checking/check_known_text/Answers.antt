use Rattle.onfi_schedule.specs.Schedule.{finish}
use Rattle.onfi_known_check.proofs.Refused.{illegal_told}
use Rattle.onfi_known_check.proofs.checking.check_known_text.Goals as goal

pub returns-clause-illegal : goal.returns-clause-illegal
returns-clause-illegal c = λ tokens certificate.
    let x = c.args.problem.now in
    illegal_told x.all x.problem c.args.schedule.now (finish x.problem c.args.schedule.now) c.args.text.now tokens certificate
    c.check_text.result c.check_text.ensures.legal c.check_text.ensures.fault
