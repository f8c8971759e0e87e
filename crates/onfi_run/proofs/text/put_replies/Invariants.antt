use Rattle.std.specs.Prelude.{string_bytes}
use Rattle.onfi_run.specs.Report.{got_lines}
use Rattle.onfi_run.proofs.Numbered.{Numbered}
use Rattle.onfi_run.proofs.text.put_replies.Given as goal

abbrev pub invariant-loop-host : goal.invariant-loop-host
invariant-loop-host l = Numbered (got_lines l.clocked) l.all l.host (string_bytes l.fn.text) (string_bytes l.text)
