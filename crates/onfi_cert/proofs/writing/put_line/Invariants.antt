use Rattle.std.proofs.Common.{take}
use Rattle.onfi_cert.proofs.Put.{Put}
use Rattle.onfi_cert.proofs.writing.put_line.Given as goal

abbrev pub invariant-loop-at : goal.invariant-loop-at
invariant-loop-at g l = Put g.T.Spelled.spelling g.T.Spelled.Kept l.initial.out.items l.out.items (take l.at l.tokens)
