use Rattle.std.specs.Prelude.{string_bytes}
use Rattle.onfi_run.specs.Report.{answers_lines}
use Rattle.onfi_run.proofs.Numbered.{Numbered}
use Rattle.onfi_run.proofs.text.put_got.Given as goal

abbrev pub invariant-loop-channel : goal.invariant-loop-channel
invariant-loop-channel l = Numbered (answers_lines l.clocked l.host) l.got l.channel (string_bytes l.fn.text) (string_bytes l.text)
