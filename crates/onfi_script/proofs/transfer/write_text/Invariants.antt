use Rattle.std.proofs.Common.{◌≤◌, length, take}
use Rattle.std.specs.Io.KnownBytes.{Appends}
use Rattle.onfi_script.proofs.transfer.write_text.Given as goal

abbrev pub invariant-loop : goal.invariant-loop
invariant-loop g l = Appends (g.W.Write.contents l.fn.writer) (g.W.Write.contents l.writer) (take l.done l.text) × (l.done ≤ length l.text)
