use Rattle.std.proofs.Common.{◌≡◌, ◌%◌, rules}
use Rattle.onfi_planner.proofs.Turns.{given}
use Rattle.onfi_planner.proofs.dealing.do_share.Goals as goal

pub loop-call-preserved : goal.loop-call-preserved
loop-call-preserved g c = let here : c.loop-call.call % c.args.workers ≡ c.args.worker = search rules in record {
  answers = given g.F.Fn c.args.f.now c.args.workers c.args.worker c.loop-call.call c.loop-call.answers.items c.push.new.self.items c.in-Ok.answer here c.in-Ok-push.ensures.items c.loop-call.invariant.answers (record { met = c.in-Ok.ensures });
}
