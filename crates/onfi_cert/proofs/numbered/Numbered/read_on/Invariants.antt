use Rattle.std.proofs.Common.{◌≡◌, ◌+◌, length}
use Rattle.onfi_cert.proofs.numbered.Numbered.read_on.Given as goal

abbrev pub invariant-loop : goal.invariant-loop
invariant-loop g l = record {
  behind : g.S.TokenSource.behind l.self.source ≡ g.S.TokenSource.behind l.fn.self.source;
  counted : l.self.place + length (g.S.TokenSource.left l.self.source) ≡ l.fn.self.place + length (g.S.TokenSource.left l.fn.self.source);
}

abbrev pub decreases-loop : goal.decreases-loop
decreases-loop g l = length (g.S.TokenSource.left l.self.source)
