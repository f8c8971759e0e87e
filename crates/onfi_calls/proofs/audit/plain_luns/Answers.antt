use Rattle.std.proofs.Common.{ap, ◌∙◌, subst}
use Rattle.onfi_calls.specs.Audit.{IsFit, no_lun, written_lun}
use Rattle.onfi_calls.proofs.Audits.{each_more, each_all}
use Rattle.onfi_calls.proofs.Filled.{filled_more, filled_all}
use Rattle.onfi_calls.proofs.audit.plain_luns.Goals as goal

pub loop-at-preserved : goal.loop-at-preserved
loop-at-preserved c = record {
  made = filled_more written_lun 8 no_lun c.args.stages.now c.loop-at.at _ c.plain_lun.result
      c.loop-at.all c.loop-at-test.true c.requires.few (c.plain_lun.ensures.value ∙ ap written_lun c.index-stages-at.is) c.loop-at.invariant.made;
  fit = each_more IsFit c.args.stages.now c.loop-at.at _ c.loop-at-test.true c.loop-at.invariant.fit
      (subst IsFit c.index-stages-at.is c.plain_lun.ensures.fit);
}

pub returns-clause-value : goal.returns-clause-value
returns-clause-value c = filled_all written_lun 8 no_lun c.args.stages.now c.loop-at.at c.loop-at.all c.loop-at-test.false c.loop-at.invariant.made

pub returns-clause-fit : goal.returns-clause-fit
returns-clause-fit c = each_all IsFit c.args.stages.now c.loop-at.at c.loop-at-test.false c.loop-at.invariant.fit
