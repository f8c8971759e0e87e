use Rattle.std.proofs.Common.{sym, ap, ◌∙◌, subst}
use Rattle.std.proofs.lemmas.Bool.{false≢true}
use Rattle.onfi_audit.specs.Audit.{MayComeLater, request_of}
use Rattle.onfi_log.specs.Judging.{Judged, kind_of, with_brought}
use Rattle.onfi_log.proofs.Steps.{brought_is, nothing_brought, ran_is}
use Rattle.onfi_log.proofs.judged.Judged.run_noted.Goals as goal

pub withdraw-requires : goal.withdraw-requires
withdraw-requires c =
    let (j, e, b, h) = c.requires.from in
    let line = c.args.line.now.phase in
    let same = c.run_anyway.ensures.unchanged c.if-run_anyway.false in
    (j.audit, request_of j.audit (kind_of line.operation) line.lun line.block line.page, ap (λ (k : Judged). k.audit) (same ∙ e) ∙ brought_is j line (sym h ∙ c.if-brought.true))

pub returns-then-run_anyway : goal.returns-then-run_anyway
returns-then-run_anyway c = λ j e b h.
    let line = c.args.line.now in
    let may = subst (λ (k : Judged). MayComeLater k.audit line.phase) e (c.run_anyway.ensures.ran.0 c.if-run_anyway.true) in
    (may, ran_is j c.args.self.now c.run_anyway.new.self c.note.new.self line c.args.begins e b (c.run_anyway.ensures.after c.if-run_anyway.true) c.note.ensures)

pub returns-then-brought : goal.returns-then-brought
returns-then-brought c = λ j e b h.
    let line = c.args.line.now.phase in
    let same = c.run_anyway.ensures.unchanged c.if-run_anyway.false in
    let none : MayComeLater (with_brought j line) line → ⊥ = λ m. false≢true (sym c.if-run_anyway.false ∙ c.run_anyway.ensures.ran.1 (subst (λ (k : Judged). MayComeLater k.audit line) (sym e) m)) in
    let before = ap (λ (k : Judged). k.audit) (same ∙ e) ∙ brought_is j line (sym h ∙ c.if-brought.true) in
    (none, c.withdraw.ensures j.audit (request_of j.audit (kind_of line.operation) line.lun line.block line.page) before ∙ ap (λ (k : Judged). let x : Judged = record k { audit = j.audit } in x) (same ∙ e))

pub returns-else-brought : goal.returns-else-brought
returns-else-brought c = λ j e b h.
    let line = c.args.line.now.phase in
    let same = c.run_anyway.ensures.unchanged c.if-run_anyway.false in
    let none : MayComeLater (with_brought j line) line → ⊥ = λ m. false≢true (sym c.if-run_anyway.false ∙ c.run_anyway.ensures.ran.1 (subst (λ (k : Judged). MayComeLater k.audit line) (sym e) m)) in
    (none, same ∙ e ∙ nothing_brought j line (sym h ∙ c.if-brought.false))
