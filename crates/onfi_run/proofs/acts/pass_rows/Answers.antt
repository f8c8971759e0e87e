use Rattle.std.proofs.Common.{◌∙◌, arith, refl, sym}
use Rattle.onfi_run.specs.Resting.{is_through}
use Rattle.onfi_run.proofs.Acting.{acts_still, acts_then}
use Rattle.onfi_run.proofs.Resting.{stands_as}
use Rattle.onfi_run.proofs.acts.pass_rows.Goals as goal

pub loop-init : goal.loop-init
loop-init g c = (refl, acts_still _ _ _ _ _ refl refl refl, λ none. (refl, refl, refl, refl))

pub loop-preserved : goal.loop-preserved
loop-preserved g c = (
  c.pass_row.ensures.queues ∙ c.loop.invariant.0,
  acts_then _ _ _ c.args.station.now c.loop.station c.pass_row.new.station c.loop.invariant.1 c.pass_row.ensures.acts,
  λ none. absurd (cc),
)

pub returns-then-not-pass_row-clause-acts : goal.returns-then-not-pass_row-clause-acts
returns-then-not-pass_row-clause-acts g c = acts_then _ _ _ c.args.station.now c.loop.station c.pass_row.new.station c.loop.invariant.1 c.pass_row.ensures.acts

pub returns-then-not-pass_row-clause-stands : goal.returns-then-not-pass_row-clause-stands
returns-then-not-pass_row-clause-stands g c none =
    let same = c.loop.invariant.2 none in
    let s = c.pass_row.ensures.stands c.if-not-pass_row.true in (
      s.0 ∙ same.0,
      s.1 ∙ same.1,
      s.2 ∙ same.2,
      stands_as g.A.Channels.ended c.args.now c.args.course.now.rows.now _ _ _ _ _ _ _ _ (sym same.0) (sym c.loop.invariant.1.number) (sym same.2) (sym same.1) s.3,
    )

pub returns-after-loop-clause-stands : goal.returns-after-loop-clause-stands
returns-after-loop-clause-stands g c none =
    let same = c.loop.invariant.2 none in
    (same.0, same.1, same.2, is_through (omega (arith, c.loop-test.false, same.3)))
