use Rattle.onfi_known_check.proofs.Refused.{above_told, illegal_told}
use Rattle.onfi_known_check.proofs.checking.check_known_within.Goals as goal

pub returns-clause-illegal : goal.returns-clause-illegal
returns-clause-illegal c = λ tokens certificate.
    let x = c.args.problem.now in
    illegal_told x.all x.problem c.args.schedule.now c.args.below c.args.text.now tokens certificate
    c.check_text.result c.check_text.ensures.legal c.check_text.ensures.fault

pub returns-clause-above : goal.returns-clause-above
returns-clause-above c = λ tokens certificate.
    let x = c.args.problem.now in
    above_told x.all x.problem c.args.schedule.now c.args.below c.args.text.now tokens certificate
    c.check_text.result c.check_text.ensures.finish c.check_text.ensures.below c.check_text.ensures.fault
