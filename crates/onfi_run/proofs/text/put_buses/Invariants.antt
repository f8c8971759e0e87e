use Rattle.std.specs.Prelude.{string_bytes}
use Rattle.onfi_run.specs.Report.{bus_line}
use Rattle.onfi_run.proofs.Numbered.{Numbered}
use Rattle.onfi_run.proofs.text.put_buses.Given as goal

abbrev pub invariant-loop-channel : goal.invariant-loop-channel
invariant-loop-channel l = Numbered bus_line l.buses l.channel (string_bytes l.fn.text) (string_bytes l.text)
