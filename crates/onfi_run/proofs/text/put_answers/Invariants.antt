use Rattle.std.specs.Prelude.{string_bytes}
use Rattle.onfi_run.specs.Report.{reply_line}
use Rattle.onfi_run.proofs.Numbered.{Numbered}
use Rattle.onfi_run.proofs.text.put_answers.Given as goal

abbrev pub invariant-loop-serial : goal.invariant-loop-serial
invariant-loop-serial l = Numbered (reply_line l.clocked l.host l.channel) l.answers l.serial (string_bytes l.fn.text) (string_bytes l.text)
