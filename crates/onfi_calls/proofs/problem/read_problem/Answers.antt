use Rattle.std.proofs.lemmas.Result.{IfErr-weaker}
use Rattle.onfi_calls.specs.Refused.{IsBadSaid, IsRefused, is_problem}
use Rattle.onfi_calls.proofs.problem.read_problem.Goals as goal

pub returns-in-Ok-clause-refused : goal.returns-in-Ok-clause-refused
returns-in-Ok-clause-refused c =
    IfErr-weaker c.open_said.result (IsBadSaid c.args.channel.now c.args.wants.now) (IsRefused c.args.channel.now c.args.wants.now)
    (λ status bad. is_problem c.in-Ok.ensures.measured.said bad) c.open_said.ensures.bad
