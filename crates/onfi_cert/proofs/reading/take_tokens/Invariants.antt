use Rattle.std.proofs.Common.{◌≡◌, length}
use Rattle.onfi_cert.proofs.Ahead.{Taken}
use Rattle.onfi_cert.proofs.reading.take_tokens.Given as goal

abbrev pub invariant-loop-tokens : goal.invariant-loop-tokens
invariant-loop-tokens l = Taken l.initial.source.line l.source.line l.tokens.items × (l.source.strict ≡ l.initial.source.strict)

abbrev pub decreases-loop-tokens : goal.decreases-loop-tokens
decreases-loop-tokens l = length l.source.line.tokens
