use Rattle.std.proofs.Common.{◌≡◌, Some, ap, subst}
use Rattle.std.specs.Prelude.{slice_get}
use Rattle.onfi_log.specs.Judging.{Judged, RanBy}
use Rattle.onfi_log.proofs.Steps.{not_past}
use Rattle.onfi_log.proofs.judged.Judged.regain.Goals as goal

pub returns-then-not-branch : goal.returns-then-not-branch
returns-then-not-branch c =
    let line = c.args.line.now in
    let audit = ap (λ (j : Judged). j.audit) c.self.view_is in
    let there = subst (λ a. slice_get a.luns line.phase.lun ≡ Some c.in-Some.before) audit c.in-Some.ensures.there in
    let ran = subst (λ b. RanBy b c.put_stage.new.self line c.run_brought.new.self) c.if-not-branch.true c.in_ok-run_brought.ensures in
    not_past c.args.self.now c.put_stage.new.self c.run_brought.new.self c.put_stage-then-not-branch.new.self line c.in-Some.before c.in-Some.stage
    there c.in-Some.ensures.some c.put_stage.ensures ran c.put_stage-then-not-branch.ensures
