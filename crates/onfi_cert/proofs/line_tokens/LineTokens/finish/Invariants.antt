use Rattle.std.proofs.Common.{◌≡◌, length}
use Rattle.onfi_cert.proofs.line_tokens.LineTokens.finish.Given as goal

abbrev pub invariant-loop : goal.invariant-loop
invariant-loop g l = l.self.fault ≡ l.fn.self.fault

abbrev pub decreases-loop : goal.decreases-loop
decreases-loop g l = length l.self.tokens
