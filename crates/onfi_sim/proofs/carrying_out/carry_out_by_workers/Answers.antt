use Rattle.onfi_script.specs.declared.command.Command.TheVariants.{Plan, PlanBy, Check, CheckWithin, Legal}
use Rattle.onfi_sim.proofs.Told.{by_several, several_begun}
use Rattle.onfi_sim.proofs.carrying_out.carry_out_by_workers.Goals as goal

pub returns-in-Plan-clause-answer : goal.returns-in-Plan-clause-answer
returns-in-Plan-clause-answer g c =
    rw c.in-Plan.is (by_several (Plan c.in-Plan.limit c.in-Plan.trace) c.args.workers (g.I.Read.remaining c.args.reader.now) (g.W.Write.contents c.args.writer.now) (g.W.Write.contents c.engine_split.new.writer) c.engine_split.result c.requires.several c.engine_split.ensures.answer)

pub returns-in-Plan-clause-unwritten : goal.returns-in-Plan-clause-unwritten
returns-in-Plan-clause-unwritten g c e =
    rw c.in-Plan.is (several_begun (Plan c.in-Plan.limit c.in-Plan.trace) c.args.workers (g.I.Read.remaining c.args.reader.now) (g.W.Write.contents c.args.writer.now) (g.W.Write.contents c.engine_split.new.writer) c.requires.several (c.engine_split.ensures.unwritten e))

pub returns-in-PlanBy-clause-answer : goal.returns-in-PlanBy-clause-answer
returns-in-PlanBy-clause-answer g c =
    rw c.in-PlanBy.is (by_several (PlanBy c.in-PlanBy.options) c.args.workers (g.I.Read.remaining c.args.reader.now) (g.W.Write.contents c.args.writer.now) (g.W.Write.contents c.engine_split_by.new.writer) c.engine_split_by.result c.requires.several c.engine_split_by.ensures.answer)

pub returns-in-PlanBy-clause-unwritten : goal.returns-in-PlanBy-clause-unwritten
returns-in-PlanBy-clause-unwritten g c e =
    rw c.in-PlanBy.is (several_begun (PlanBy c.in-PlanBy.options) c.args.workers (g.I.Read.remaining c.args.reader.now) (g.W.Write.contents c.args.writer.now) (g.W.Write.contents c.engine_split_by.new.writer) c.requires.several (c.engine_split_by.ensures.unwritten e))

pub returns-in-Check-clause-answer : goal.returns-in-Check-clause-answer
returns-in-Check-clause-answer g c =
    rw c.in-Check.is (by_several Check c.args.workers (g.I.Read.remaining c.args.reader.now) (g.W.Write.contents c.args.writer.now) (g.W.Write.contents c.engine.new.writer) c.engine.result c.requires.several (rw c.in-Check.is at c.engine.ensures.answer))

pub returns-in-Check-clause-unwritten : goal.returns-in-Check-clause-unwritten
returns-in-Check-clause-unwritten g c e =
    let begun = rw c.in-Check.is at c.engine.ensures.unwritten in
    rw c.in-Check.is (several_begun Check c.args.workers (g.I.Read.remaining c.args.reader.now) (g.W.Write.contents c.args.writer.now) (g.W.Write.contents c.engine.new.writer) c.requires.several (begun e))

pub returns-in-CheckWithin-clause-answer : goal.returns-in-CheckWithin-clause-answer
returns-in-CheckWithin-clause-answer g c =
    rw c.in-CheckWithin.is (by_several CheckWithin c.args.workers (g.I.Read.remaining c.args.reader.now) (g.W.Write.contents c.args.writer.now) (g.W.Write.contents c.engine-in-CheckWithin.new.writer) c.engine-in-CheckWithin.result c.requires.several (rw c.in-CheckWithin.is at c.engine-in-CheckWithin.ensures.answer))

pub returns-in-CheckWithin-clause-unwritten : goal.returns-in-CheckWithin-clause-unwritten
returns-in-CheckWithin-clause-unwritten g c e =
    let begun = rw c.in-CheckWithin.is at c.engine-in-CheckWithin.ensures.unwritten in
    rw c.in-CheckWithin.is (several_begun CheckWithin c.args.workers (g.I.Read.remaining c.args.reader.now) (g.W.Write.contents c.args.writer.now) (g.W.Write.contents c.engine-in-CheckWithin.new.writer) c.requires.several (begun e))

pub returns-in-Legal-clause-answer : goal.returns-in-Legal-clause-answer
returns-in-Legal-clause-answer g c =
    rw c.in-Legal.is (by_several Legal c.args.workers (g.I.Read.remaining c.args.reader.now) (g.W.Write.contents c.args.writer.now) (g.W.Write.contents c.engine-in-Legal.new.writer) c.engine-in-Legal.result c.requires.several (rw c.in-Legal.is at c.engine-in-Legal.ensures.answer))

pub returns-in-Legal-clause-unwritten : goal.returns-in-Legal-clause-unwritten
returns-in-Legal-clause-unwritten g c e =
    let begun = rw c.in-Legal.is at c.engine-in-Legal.ensures.unwritten in
    rw c.in-Legal.is (several_begun Legal c.args.workers (g.I.Read.remaining c.args.reader.now) (g.W.Write.contents c.args.writer.now) (g.W.Write.contents c.engine-in-Legal.new.writer) c.requires.several (begun e))
