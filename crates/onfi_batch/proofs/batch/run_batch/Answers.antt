use Rattle.std.proofs.Common.{refl}
use Rattle.std.proofs.lemmas.Result.{err_from_is_err_and}
use Rattle.onfi_lun.specs.declared.target.Target.{Target}
use Rattle.onfi_batch.specs.Course.{state_of}
use Rattle.onfi_batch.proofs.Opening.{opens, course_kept, fault_since, ended_rightful, ended_replied, ended_blocks, none_is}
use Rattle.onfi_batch.proofs.Order.{status_told}
use Rattle.onfi_batch.proofs.Steps.{fewer_left}
use Rattle.onfi_batch.proofs.batch.run_batch.Goals as goal

pub loop-due-init : goal.loop-due-init
loop-due-init g c =
    let target : Target = record { geometry = c.args.geometry.now; timing = c.timing.result.now } in
    let opened = c.requires.opened in
    opens target c.args.items.items c.args.problem.now.problem c.args.schedule.now opened.0 opened.1
    (g.C.Chip.state c.args.chip.now) c.timing.ensures opened.2 c.requires.batch c.problem_is_one.ensures.problem c.problem_is_one.ensures.few c.requires.legal
    c.in-Ok.course c.in-Ok-open.lanes c.in-Ok.ensures c.in-Ok-open.ensures

pub loop-due-preserved : goal.loop-due-preserved
loop-due-preserved g c =
    let target : Target = record { geometry = c.args.geometry.now; timing = c.timing.result.now } in
    course_kept target c.args.schedule.now c.args.items.items (g.C.Chip.state c.args.chip.now) c.loop-due.course c.loop-due.lanes
    (g.C.Chip.state c.loop-due.chip) c.loop-due.invariant
    c.run.new.self c.run.new.lanes (g.C.Chip.state c.run.new.chip) c.in-Some.due c.in-Some.ensures.due c.in_ok-run.ensures.ran c.in_ok-run.ensures.driven

pub loop-due-smaller : goal.loop-due-smaller
loop-due-smaller g c =
    let driven = c.loop-due.invariant.driven in
    fewer_left driven.setup (state_of c.loop-due.course) (state_of c.run.new.self) (g.C.Chip.state c.loop-due.chip)
    (g.C.Chip.state c.run.new.chip) c.in-Some.due driven.half.sound refl c.in-Some.ensures.due c.in_ok-run.ensures.ran

pub returns-in_err-run-clause-fault : goal.returns-in_err-run-clause-fault
returns-in_err-run-clause-fault g c =
    let course = c.loop-due.invariant in
    let p = err_from_is_err_and c.from_residual.result c.from_residual.ensures.1 in
    rw (p.1, p.2)
    (fault_since c.args.schedule.now course.driven.setup (state_of c.loop-due.course) course.driven.half.sound refl course.order
    (g.C.Chip.state c.args.chip.now) (g.C.Chip.state c.loop-due.chip) (g.C.Chip.state c.run.new.chip) course.kept _ c.in_err-run.ensures.err)

pub returns-in_err-run-clause-told : goal.returns-in_err-run-clause-told
returns-in_err-run-clause-told g c =
    let course = c.loop-due.invariant in
    let p = err_from_is_err_and c.from_residual.result c.from_residual.ensures.1 in
    rw (p.1, p.2)
    (status_told c.args.schedule.now course.driven.setup (state_of c.loop-due.course) course.driven.half.sound refl course.order _ c.in_err-run.ensures.told)

pub returns-clause-rightful : goal.returns-clause-rightful
returns-clause-rightful g c =
    let target : Target = record { geometry = c.args.geometry.now; timing = c.timing.result.now } in
    ended_rightful target c.args.items.items c.args.schedule.now (g.C.Chip.state c.args.chip.now)
    (g.C.Chip.state c.loop-due.chip) c.loop-due.course c.loop-due.lanes c.loop-due.invariant

pub returns-clause-each : goal.returns-clause-each
returns-clause-each g c =
    let target : Target = record { geometry = c.args.geometry.now; timing = c.timing.result.now } in
    let none = none_is c.due.result c.due.ensures.none c.in_default-due.not-Some in
    ended_replied target c.args.items.items c.args.schedule.now (g.C.Chip.state c.args.chip.now)
    (g.C.Chip.state c.loop-due.chip) c.loop-due.course c.loop-due.lanes c.loop-due.invariant none

pub returns-clause-blocks : goal.returns-clause-blocks
returns-clause-blocks g c =
    let target : Target = record { geometry = c.args.geometry.now; timing = c.timing.result.now } in
    let none = none_is c.due.result c.due.ensures.none c.in_default-due.not-Some in
    ended_blocks target c.args.items.items c.args.schedule.now (g.C.Chip.state c.args.chip.now)
    (g.C.Chip.state c.loop-due.chip) c.loop-due.course c.loop-due.lanes c.loop-due.invariant none
