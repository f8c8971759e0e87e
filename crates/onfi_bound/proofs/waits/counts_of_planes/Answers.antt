use Rattle.std.proofs.Common.{sym, arith, get_or, ap, ◌∙◌}
use Rattle.std.proofs.lemmas.List.{take_all}
use Rattle.std.proofs.Math.Facts.{Fits-of_lt}
use Rattle.onfi_problem.specs.Problem.{IsWant}
use Rattle.onfi_bound.specs.Bounds.{on_lun}
use Rattle.onfi_bound.specs.Parts.{plane_counts}
use Rattle.onfi_bound.proofs.Steps.{no_want, all_at}
use Rattle.onfi_bound.proofs.Counts.{counts_more, counts_same, counts_other, counts_fit}
use Rattle.onfi_bound.proofs.waits.counts_of_planes.Goals as goal
use Rattle.onfi_bound.proofs.waits.counts_of_planes.Goals.{then-other-want+then-has, else-other-want, else-other-want-via-then-other-want+else-has, else-other-want-via-else-other-want}

pub overflow_add-counts : goal.overflow_add-counts
overflow_add-counts c =
    let e = counts_fit c.args.rules.now c.args.want.now c.args.before.now c.loop-other.other-index (get_or c.args.before.now c.loop-other.other-index no_want).plane c.loop-other.counts c.loop-other.invariant in
    Fits-of_lt (omega arith)

pub loop-other-preserved : goal.loop-other-preserved
loop-other-preserved c =
    let of = c.of-class.ensures in
    elim c.if-other-want.branch [
      | then-other-want+then-has w ↦ (
          let plane = (all_at IsWant c.args.before.now c.loop-other.other-index no_want c.loop-other-test.true c.requires.wants).plane in
          let q = rw (of.operation, of.page, of.above) at (w.if-has.ensures) in
          counts_more c.args.rules.now c.args.want.now c.args.before.now c.loop-other.other-index no_want c.loop-other.counts c.if-other-want.counts c.loop-other-test.true plane w.if-other-want.true (sym q) c.loop-other.invariant w.counts-is)
      | else-other-want w ↦ rw w.counts-is (elim w.else-other-want.branch [
        | else-other-want-via-then-other-want+else-has w' ↦ (
            let q = rw (of.operation, of.page, of.above) at (w'.if-has.ensures) in
            counts_same c.args.rules.now c.args.want.now c.args.before.now c.loop-other.other-index no_want c.loop-other.counts c.loop-other-test.true (sym q) c.loop-other.invariant)
        | else-other-want-via-else-other-want w' ↦ counts_other c.args.rules.now c.args.want.now c.args.before.now c.loop-other.other-index no_want c.loop-other.counts c.loop-other-test.true w'.if-other-want.false c.loop-other.invariant
      ])
    ]

pub returns-clause-value : goal.returns-clause-value
returns-clause-value c = c.loop-other.invariant ∙ ap (λ z. plane_counts c.args.rules.now c.args.want.now (on_lun c.args.want.now.lun z)) (take_all c.loop-other.other-index c.args.before.now c.loop-other-test.false)

pub returns-clause-page_fits : goal.returns-clause-page_fits
returns-clause-page_fits c = c.of-class.ensures.page_fits

pub returns-clause-above_fits : goal.returns-clause-above_fits
returns-clause-above_fits c = c.of-class.ensures.above_fits
