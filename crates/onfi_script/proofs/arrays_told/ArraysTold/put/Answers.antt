use Rattle.std.proofs.Common.{◌∙◌, sym, ap}
use Rattle.onfi_script.specs.ArraysTold.{array_of}
use Rattle.onfi_script.proofs.ToldArrays.{more_told}
use Rattle.onfi_script.proofs.arrays_told.ArraysTold.put.Goals as goal

pub returns-in_ok-insert : goal.returns-in_ok-insert
returns-in_ok-insert c = λ rows.
    more_told rows c.args.row.now c.args.self.now.names c.insert.new.self c.in-Some.name (sym (c.in-Some.ensures ∙ ap array_of c.subject.ensures)) c.in_ok-insert.ensures.updates
