use Rattle.onfi_planner.specs.Dealing.{GivesAll, dealt}
use Rattle.onfi_planner.proofs.dealing.do_share.Given as goal

abbrev pub invariant-loop-call : goal.invariant-loop-call
invariant-loop-call g l = record { answers : GivesAll g.F.Fn l.f (dealt l.workers l.worker l.call) l.answers.items }
