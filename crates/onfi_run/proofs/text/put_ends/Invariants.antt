use Rattle.std.specs.Prelude.{string_bytes}
use Rattle.onfi_run.specs.Report.{end_line}
use Rattle.onfi_run.proofs.Numbered.{Numbered}
use Rattle.onfi_run.proofs.text.put_ends.Given as goal

abbrev pub invariant-loop-channel : goal.invariant-loop-channel
invariant-loop-channel l = Numbered end_line l.ends l.channel (string_bytes l.fn.text) (string_bytes l.text)
