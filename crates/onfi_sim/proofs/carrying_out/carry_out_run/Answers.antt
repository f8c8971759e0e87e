use Rattle.onfi_console.specs.declared.parsed.Named.TheVariants.{Run}
use Rattle.onfi_run.specs.Ending.{nodes_by}
use Rattle.onfi_script.specs.Text.{memory}
use Rattle.onfi_sim.proofs.Told.{memory_told, run_begun, run_told, told, told_part}
use Rattle.onfi_sim.proofs.carrying_out.carry_out_run.Goals as goal

pub returns-in_default-clause-answer : goal.returns-in_default-clause-answer
returns-in_default-clause-answer g c =
    let run = Run c.args.options in
    told run (g.I.Read.remaining c.args.reader.now) (g.W.Write.contents c.args.writer.now) (g.W.Write.contents c.write_answer.new.writer) memory c.write_answer.result (memory_told run (g.I.Read.remaining c.args.reader.now)) c.write_answer.ensures.whole

pub returns-in_default-clause-unwritten : goal.returns-in_default-clause-unwritten
returns-in_default-clause-unwritten g c =
    let run = Run c.args.options in
    told_part run (g.I.Read.remaining c.args.reader.now) (g.W.Write.contents c.args.writer.now) (g.W.Write.contents c.write_answer.new.writer) memory c.write_answer.result (memory_told run (g.I.Read.remaining c.args.reader.now)) c.write_answer.ensures.part

pub returns-clause-answer : goal.returns-clause-answer
returns-clause-answer g c =
    let way = c.way_of-way in
    run_told c.args.options (nodes_by way.result.choice way.result.limit) (g.I.Read.remaining c.args.reader.now) (g.W.Write.contents c.args.writer.now) (g.W.Write.contents c.run_script_by.new.writer) c.run_script_by.result way.ensures c.run_script_by.ensures.answer

pub returns-clause-unwritten : goal.returns-clause-unwritten
returns-clause-unwritten g c e =
    let way = c.way_of-way in
    run_begun c.args.options (nodes_by way.result.choice way.result.limit) (g.I.Read.remaining c.args.reader.now) (g.W.Write.contents c.args.writer.now) (g.W.Write.contents c.run_script_by.new.writer) way.ensures (c.run_script_by.ensures.unwritten e)
