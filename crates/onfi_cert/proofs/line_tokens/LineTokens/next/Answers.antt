use Rattle.std.proofs.Common.{rules}
use Rattle.onfi_cert.proofs.Walking.{gives_token, gives_end, gives_fault}
use Rattle.onfi_cert.proofs.line_tokens.LineTokens.next.Goals as goal

pub overflow_add-self : goal.overflow_add-self
overflow_add-self g c = let fits = g.met.T.Spelled.fits in search rules

pub returns-in-Ok-Some-clause-given : goal.returns-in-Ok-Some-clause-given
returns-in-Ok-Some-clause-given g c = (gives_token _ _ _ _ c.self.invariant (rw c.in-Ok-Some.field-0-is at c.in-Ok-Some.ensures.exact) c.self.view_is).0

pub returns-in-Ok-Some-clause-left : goal.returns-in-Ok-Some-clause-left
returns-in-Ok-Some-clause-left g c = (gives_token _ _ _ _ c.self.invariant (rw c.in-Ok-Some.field-0-is at c.in-Ok-Some.ensures.exact) c.self.view_is).1

pub returns-in-Ok-None-clause-given : goal.returns-in-Ok-None-clause-given
returns-in-Ok-None-clause-given g c = (gives_end _ _ _ _ c.self.invariant (rw c.in-Ok-None.field-0-is at c.in-Ok-None.ensures.exact) c.self.view_is).0

pub returns-in-Ok-None-clause-left : goal.returns-in-Ok-None-clause-left
returns-in-Ok-None-clause-left g c = (gives_end _ _ _ _ c.self.invariant (rw c.in-Ok-None.field-0-is at c.in-Ok-None.ensures.exact) c.self.view_is).1

pub returns-in-Err-clause-given : goal.returns-in-Err-clause-given
returns-in-Err-clause-given g c = (gives_fault _ _ _ _ c.self.invariant c.in-Err.ensures.exact c.self.view_is).0

pub returns-in-Err-clause-left : goal.returns-in-Err-clause-left
returns-in-Err-clause-left g c = (gives_fault _ _ _ _ c.self.invariant c.in-Err.ensures.exact c.self.view_is).1
