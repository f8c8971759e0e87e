use Rattle.std.proofs.Common.{◌≡◌, None, arith, get_or, refl, subst, take}
use Rattle.std.specs.Prelude.{IfNone}
use Rattle.onfi_run.specs.Operations.{operation_of, requests_on}
use Rattle.onfi_run.specs.Resting.{is_early, is_through}
use Rattle.onfi_run.proofs.Acting.{acts_more, acts_still}
use Rattle.onfi_run.proofs.Moments.{same_moment}
use Rattle.onfi_run.proofs.Resting.{before_row}
use Rattle.onfi_run.proofs.Sends.{row_passed, row_sent}
use Rattle.onfi_run.proofs.acts.pass_row.Goals as goal

pub returns-then-at-course-clause-acts : goal.returns-then-at-course-clause-acts
returns-then-at-course-clause-acts g c = acts_still _ _ _ _ _ refl refl refl

pub returns-then-at-course-clause-stands : goal.returns-then-at-course-clause-stands
returns-then-at-course-clause-stands g c stayed = (refl, refl, refl, is_through (omega (arith, c.if-at-course.true)))

pub returns-then-comes-now-clause-acts : goal.returns-then-comes-now-clause-acts
returns-then-comes-now-clause-acts g c = acts_still _ _ _ _ _ refl refl refl

pub returns-then-comes-now-clause-stands : goal.returns-then-comes-now-clause-stands
returns-then-comes-now-clause-stands g c stayed = (refl, refl, refl, is_early (omega (arith, c.if-comes-now.true, c.comes_at-comes.ensures)))

pub returns-in_default-clause-acts : goal.returns-in_default-clause-acts
returns-in_default-clause-acts g c =
    let geometry = c.args.course.now.geometry.now in
    let rows = c.args.course.now.rows.now in
    let host = c.args.station.now in
    let row = get_or rows host.passed c.index-course-at.result in
    let none = subst (λ o. IfNone o (operation_of host.number row ≡ None)) c.in_default.is c.operation_of.ensures.none in
    acts_more geometry rows c.args.now host _ c.index-course-at.result (omega (arith, c.if-at-course.false)) (omega (arith, c.if-comes-now.false, c.comes_at-comes.ensures)) refl refl refl
    (λ before. row_passed geometry (take host.passed rows) host.number row host.ports.items none before) (same_moment c.args.now host.ports.items host.ports.items refl)

pub returns-then-not-make-clause-acts : goal.returns-then-not-make-clause-acts
returns-then-not-make-clause-acts g c =
    acts_still _ _ _ c.args.station.now c.make.new.station c.make.ensures.number c.make.ensures.passed (c.make.ensures.waits c.if-not-make.true).1

pub returns-then-not-make-clause-stands : goal.returns-then-not-make-clause-stands
returns-then-not-make-clause-stands g c stayed =
    let host = c.args.station.now in
    let w = c.make.ensures.waits c.if-not-make.true in (
      w.0,
      w.1,
      c.make.ensures.passed,
      before_row c.args.now c.args.course.now.rows.now _ host.number host.passed host.ports.items c.index-course-at.result c.in-Some.operation.now (omega (arith, c.if-at-course.false))
          c.in-Some.ensures.some w.2,
    )

pub returns-clause-acts : goal.returns-clause-acts
returns-clause-acts g c =
    let geometry = c.args.course.now.geometry.now in
    let rows = c.args.course.now.rows.now in
    let host = c.args.station.now in
    let row = get_or rows host.passed c.index-course-at.result in
    let before = requests_on geometry (take host.passed rows) host.number in
    let made = c.make.ensures in
    acts_more geometry rows c.args.now host _ c.index-course-at.result (omega (arith, c.if-at-course.false)) (omega (arith, c.if-comes-now.false, c.comes_at-comes.ensures)) refl made.number made.same
    (λ sent. row_sent geometry (take host.passed rows) host.number c.in-Some.operation.now row c.make.new.station.ports.items c.in-Some.ensures.some (made.sent c.if-not-make.false before sent)) made.moments
