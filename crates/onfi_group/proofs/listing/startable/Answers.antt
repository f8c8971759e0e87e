use Rattle.std.proofs.Common.{rules, sym, ◌∙◌}
use Rattle.onfi_group.proofs.Counting.{few_startable}
use Rattle.onfi_group.proofs.Firsts.{opened_grown, opened_other, opened_behind, opened_all, same_order}
use Rattle.onfi_group.proofs.listing.startable.Goals as goal
use Rattle.onfi_group.proofs.listing.startable.Goals.{then-want-lun+then-not-has_block+in_ok-grow, else-want-lun, else-want-lun-via-then-want-lun+else-not-has_block, else-want-lun-via-else-want-lun}

pub loop-at-preserved : goal.loop-at-preserved
loop-at-preserved c =
    elim c.if-want-lun.branch [
      | then-want-lun+then-not-has_block+in_ok-grow w ↦ rw w.groups-is (opened_grown c.args.rules.now c.args.wants.now c.args.lun c.loop-at.at _ c.loop-at.groups.items _ c.loop-at-test.true w.if-want-lun.true (sym w.has_block.ensures ∙ w.if-not-has_block.true) c.loop-at.invariant w.in_ok-grow.ensures)
      | else-want-lun w ↦ rw w.groups-is (elim w.else-want-lun.branch [
        | else-want-lun-via-then-want-lun+else-not-has_block v ↦ opened_behind c.args.rules.now c.args.wants.now c.args.lun c.loop-at.at _ c.loop-at.groups.items c.loop-at-test.true (sym v.has_block.ensures ∙ v.if-not-has_block.false) c.loop-at.invariant
        | else-want-lun-via-else-want-lun v ↦ opened_other c.args.rules.now c.args.wants.now c.args.lun c.loop-at.at _ c.loop-at.groups.items c.loop-at-test.true v.if-want-lun.false c.loop-at.invariant
      ])
    ]

pub returns-clause-startable : goal.returns-clause-startable
returns-clause-startable c = opened_all c.args.rules.now c.args.wants.now c.args.lun c.loop-at.at c.loop-at.groups.items c.loop-at-test.false c.loop-at.invariant

pub returns-clause-few : goal.returns-clause-few
returns-clause-few c =
    let count = few_startable c.args.rules.now c.args.wants.now c.args.lun c.loop-at.groups.items c.requires.few c.requires.planes (returns-clause-startable c) in
    search rules

pub returns-clause-by_ids : goal.returns-clause-by_ids
returns-clause-by_ids c = λ ids. same_order c.args.rules.now c.args.wants.now c.args.lun c.loop-at.groups.items (returns-clause-startable c) ids
