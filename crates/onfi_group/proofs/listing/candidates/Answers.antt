use Rattle.std.proofs.Common.{rules}
use Rattle.onfi_group.proofs.Counting.{few_candidates}
use Rattle.onfi_group.proofs.Masks.{found_none, found_grown, found_same, found_all}
use Rattle.onfi_group.proofs.listing.candidates.Goals as goal
use Rattle.onfi_group.proofs.listing.candidates.Goals.{then-want-lun+in_ok-grow, else-want-lun}

pub loop-want-init : goal.loop-want-init
loop-want-init c = rw c.new-groups.ensures.items (found_none c.args.rules.now c.args.wants.now c.args.lun)

pub loop-want-preserved : goal.loop-want-preserved
loop-want-preserved c =
    elim c.if-want-lun.branch [
      | then-want-lun+in_ok-grow w ↦ rw w.groups-is (found_grown c.args.rules.now c.args.wants.now c.args.lun c.loop-want.want-index _ c.loop-want.groups.items _ c.requires.ids c.loop-want-test.true w.if-want-lun.true c.loop-want.invariant w.in_ok-grow.ensures)
      | else-want-lun w ↦ rw w.groups-is (found_same c.args.rules.now c.args.wants.now c.args.lun c.loop-want.want-index _ c.loop-want.groups.items c.loop-want-test.true w.if-want-lun.false c.loop-want.invariant)
    ]

pub returns-clause-candidates : goal.returns-clause-candidates
returns-clause-candidates c = found_all c.args.rules.now c.args.wants.now c.args.lun c.loop-want.want-index c.loop-want.groups.items c.loop-want-test.false c.loop-want.invariant

pub returns-clause-few : goal.returns-clause-few
returns-clause-few c =
    let count = few_candidates c.args.rules.now c.args.wants.now c.args.lun c.loop-want.groups.items c.requires.few c.requires.planes (returns-clause-candidates c) in
    search rules
