use Rattle.std.proofs.Common.{refl, subst, ◌∙◌, arith}
use Rattle.onfi_audit.specs.Audit.{IsComing}
use Rattle.onfi_audit.proofs.audit.Audit.run_anyway.Goals as goal

pub returns-in-Ok-clause-ran : goal.returns-in-Ok-clause-ran
returns-in-Ok-clause-ran c =
    let is = subst (λ l. IsComing c.args.self.now l c.in-Ok.phase) c.at-last.ensures c.in-Ok.ensures.ok in
    (λ _. ((4611686018427387903, omega arith, is.may), omega (arith, c.if-line-ge-END.false)), λ _. refl)

pub returns-in-Ok-clause-after : goal.returns-in-Ok-clause-after
returns-in-Ok-clause-after c = λ _.
    let is = subst (λ l. IsComing c.args.self.now l c.in-Ok.phase) c.at-last.ensures c.in-Ok.ensures.ok in
    c.run.ensures ∙ is.after c.args.line.now.start
