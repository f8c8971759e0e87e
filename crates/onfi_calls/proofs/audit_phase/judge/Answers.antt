use Rattle.std.proofs.Common.{sym, ap, ◌∙◌, subst}
use Rattle.std.proofs.lemmas.Bool.{false≢true}
use Rattle.onfi_audit.specs.Audit.{MayComeLater, after_line}
use Rattle.onfi_calls.proofs.audit_phase.judge.Goals as goal

pub returns-then-run_anyway : goal.returns-then-run_anyway
returns-then-run_anyway c =
    let line = c.args.line.now in
    let same = c.in-Err.ensures.unchanged in
    let ran = c.run_anyway.ensures.ran.0 c.if-run_anyway.true in
    (c.in-Err.ensures.broken, subst (λ a. MayComeLater a line) same ran.0, c.run_anyway.ensures.after c.if-run_anyway.true ∙ ap (λ a. after_line a line) same)

pub returns-else-run_anyway : goal.returns-else-run_anyway
returns-else-run_anyway c =
    let line = c.args.line.now in
    let same = c.in-Err.ensures.unchanged in (
      c.in-Err.ensures.broken,
      λ later.
          let may = subst (λ a. MayComeLater a line) (sym same) later in
          false≢true (sym c.if-run_anyway.false ∙ c.run_anyway.ensures.ran.1 (may, c.requires)),
      c.run_anyway.ensures.unchanged c.if-run_anyway.false ∙ same,
    )
