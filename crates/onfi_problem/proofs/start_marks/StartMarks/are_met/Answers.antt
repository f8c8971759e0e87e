use Rattle.std.proofs.Common.{◌∙◌, ◌<◌, length, sym, arith}
use Rattle.onfi_problem.proofs.StartMarks.{met_more, met_all}
use Rattle.onfi_problem.proofs.start_marks.StartMarks.are_met.Goals as goal

pub loop-i-preserved : goal.loop-i-preserved
loop-i-preserved c =
    let i = c.loop-i.i in
    let w : i < length c.args.waiting.now = omega arith in
    let a : i < length c.args.self.now.asked = omega arith in
    let m : i < length c.args.self.now.members = omega arith in
    sym (met_more c.args.waiting.now c.args.self.now.asked c.args.self.now.members i c.loop-i.met w a m) ∙ c.loop-i.invariant

pub returns-clause-met : goal.returns-clause-met
returns-clause-met c = sym (met_all c.args.waiting.now c.args.self.now.asked c.args.self.now.members c.loop-i.i c.loop-i.met (omega arith)) ∙ c.loop-i.invariant
