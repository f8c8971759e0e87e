use Rattle.std.proofs.Common.{inr, refl, subst}
use Rattle.onfi_log.specs.Judging.{Judged, RanBy, Regains}
use Rattle.onfi_log.proofs.Steps.{on_ok}
use Rattle.onfi_log.proofs.judged.Judged.go_on.Goals as goal

pub returns : goal.returns
returns c =
    let line = c.args.line.now in
    let k = c.regain.new.self in
    on_ok (Regains c.run_noted.new.self line k) _ c.regain.result (λ regains. λ j e b h.
    let ran = subst (λ r. RanBy r j line c.run_noted.new.self) c.if-run_noted.false (c.run_noted.ensures j e b h) in
    inr ((ran.0, refl), subst (λ (x : Judged). Regains x line k) ran.1 regains)) c.regain.ensures
