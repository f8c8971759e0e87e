use Rattle.std.proofs.Common.{ap}
use Rattle.std.proofs.lemmas.Option.{slice_get-get_or}
use Rattle.onfi_group.specs.Group.{group_spans}
use Rattle.onfi_schedule.proofs.Telling.{wait_told}
use Rattle.onfi_schedule.proofs.waits.in_group.Goals as goal

pub returns-then-start-floor-clause-told : goal.returns-then-start-floor-clause-told
returns-then-start-floor-clause-told c = λ p s et work.
    let w = c.args.work.now in
    let inv = c.loop-start.invariant in
    let members = c.args.members.now in
    wait_told p s (group_spans w.timing.now members) w.lun c.args.members.now w.next c.args.floor c.loop-start.floor c.args.starts.now c.loop-start.start-index c.loop-start.number _ _
    (ap (λ timing. group_spans timing members) et) work inv.number (slice_get-get_or c.args.starts.now c.loop-start.start-index _ c.loop-start-test.true) c.if-start-floor.true inv.first inv.behind c.not_ready.ensures.first c.not_ready.ensures.later
