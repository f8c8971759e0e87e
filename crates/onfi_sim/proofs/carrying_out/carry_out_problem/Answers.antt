use Rattle.std.proofs.Common.{◌≤◌, arith}
use Rattle.onfi_sim.proofs.Told.{by_one, one_begun}
use Rattle.onfi_sim.proofs.carrying_out.carry_out_problem.Goals as goal

pub returns-then-workers-le1-clause-answer : goal.returns-then-workers-le1-clause-answer
returns-then-workers-le1-clause-answer g c =
    let few : c.args.workers ≤ 1 = omega (arith, c.if-workers-le1.true) in
    by_one c.args.command c.args.workers (g.I.Read.remaining c.args.reader.now) (g.W.Write.contents c.args.writer.now) (g.W.Write.contents c.engine.new.writer) c.engine.result few c.engine.ensures.answer

pub returns-then-workers-le1-clause-unwritten : goal.returns-then-workers-le1-clause-unwritten
returns-then-workers-le1-clause-unwritten g c e =
    let few : c.args.workers ≤ 1 = omega (arith, c.if-workers-le1.true) in
    one_begun c.args.command c.args.workers (g.I.Read.remaining c.args.reader.now) (g.W.Write.contents c.args.writer.now) (g.W.Write.contents c.engine.new.writer) few (c.engine.ensures.unwritten e)
