use Rattle.std.proofs.Common.{◌∙◌, ap, refl}
use Rattle.onfi_queue.specs.Ends.{after_sending}
use Rattle.onfi_run.specs.Answers.{changed, submitted}
use Rattle.onfi_run.specs.Keys.{is_behind, is_sent}
use Rattle.onfi_run.proofs.port.Port.submit.Goals as goal

pub returns-then-self-clause-submits : goal.returns-then-self-clause-submits
returns-then-self-clause-submits g c made = is_behind c.if-self.true refl

pub returns-in-Ok-clause-submits : goal.returns-in-Ok-clause-submits
returns-in-Ok-clause-submits g c made =
    let old = c.args.self.now in
    is_sent c.if-self.false
    (ap (λ h. record old { host = h; answers = c.send.new.self }) c.in-Ok.ensures.sent
    ∙ ap (λ a. record old { host = after_sending old.host c.args.request; answers = a })
    (c.send.ensures.sent ∙ ap (changed (submitted c.args.now) old.answers) c.in-Ok.ensures.serial))
