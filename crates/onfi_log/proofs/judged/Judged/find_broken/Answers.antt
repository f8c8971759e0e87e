use Rattle.std.proofs.Common.{refl, sym, ap, ◌∙◌, subst}
use Rattle.std.proofs.lemmas.Bool.{false≢true}
use Rattle.onfi_log.specs.Judging.{ComesBy, Judged, gone_by}
use Rattle.onfi_log.proofs.Steps.{comes_in_time, gone_in_time}
use Rattle.onfi_log.proofs.judged.Judged.find_broken.Goals as goal

pub returns-in-Ok-clause-none : goal.returns-in-Ok-clause-none
returns-in-Ok-clause-none c =
    let j = c.args.self.now in
    let line = c.args.line.now in
    let may = c.in-Ok.ensures.exactly.0 refl in
    (comes_in_time j.tolerance j.audit line c.requires may, gone_in_time j c.judge.new.self line may c.in-Ok.ensures.after)

pub returns-in-Err-clause-none : goal.returns-in-Err-clause-none
returns-in-Err-clause-none c =
    let line = c.args.line.now in
    let same = c.in-Err.ensures.unchanged in
    let comes = subst (λ (x : Judged). ComesBy x.tolerance x.audit line) same (c.excuse.ensures.ran.0 c.if-excuse.true) in
    (comes, c.excuse.ensures.after c.if-excuse.true ∙ ap (λ (x : Judged). gone_by x line) same)

pub returns-in-Err-2-clause-breaks : goal.returns-in-Err-2-clause-breaks
returns-in-Err-2-clause-breaks c =
    let line = c.args.line.now in
    let back = sym c.in-Err.ensures.unchanged in (
      c.in-Err.ensures.broken,
      λ comes. false≢true (sym c.if-excuse.false ∙ c.excuse.ensures.ran.1 (subst (λ (x : Judged). ComesBy x.tolerance x.audit line) back comes)),
    )
