use Rattle.onfi_param.specs.Copies.{NoCopyBelow}
use Rattle.onfi_param.proofs.reading.read_page.Given as goal

abbrev pub invariant-loop-number : goal.invariant-loop-number
invariant-loop-number l = NoCopyBelow l.bytes l.number
