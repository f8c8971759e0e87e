use Rattle.std.proofs.Common.{refl, sym, subst}
use Rattle.onfi_addr.specs.declared.geometry.Geometry.{Geometry}
use Rattle.onfi_lun.specs.Drive.{HasRun}
use Rattle.onfi_core.specs.Dues.{after_due, replies_of}
use Rattle.onfi_batch.specs.Course.{AfterPhaseFault, IsFaultOf, state_of}
use Rattle.onfi_core.proofs.MayRunDue.{may_run_due}
use Rattle.onfi_batch.proofs.Steps.{agree_behind, fault_is, fault_leaves, goes_on, kept_by}
use Rattle.onfi_batch.proofs.course.Course.run.Goals as goal

pub run_due-requires-clause-due : goal.run_due-requires-clause-due
run_due-requires-clause-due g c =
    let d = c.requires.driven in
    let e = c.member.ensures in
    may_run_due d.setup c.args.target.now (state_of c.args.self.now)
    (g.C.Chip.state c.args.chip.now) d.geometry d.timing d.half.sound d.agrees c.args.due c.requires.due e.0 e.1 c.member.result.1.now e.3

pub returns-in-Ok-done-clause-ran : goal.returns-in-Ok-done-clause-ran
returns-in-Ok-done-clause-ran g c =
    let d = c.requires.driven in
    let e = c.member.ensures in
    let old = g.C.Chip.state c.args.chip.now in
    let new = g.C.Chip.state c.run_due.new.chip in
    let ran = subst (λ (x : Geometry). HasRun old x c.args.due c.member.result.1.now c.in-Ok.ran new) (sym d.geometry) c.in-Ok.ensures.ran in
    goes_on d.setup (state_of c.args.self.now) old d.half d.agrees c.args.due c.requires.due c.member.result.1.now e.0 e.1 e.3
    (state_of c.done.new.self) new c.in-Ok.ran ran c.in-Ok-done.ensures

pub returns-in-Ok-done-clause-driven : goal.returns-in-Ok-done-clause-driven
returns-in-Ok-done-clause-driven g c =
    let d = c.requires.driven in
    let e = c.member.ensures in
    let h = state_of c.args.self.now in
    let old = g.C.Chip.state c.args.chip.now in
    let new = g.C.Chip.state c.run_due.new.chip in
    let ran = subst (λ (x : Geometry). HasRun old x c.args.due c.member.result.1.now c.in-Ok.ran new) (sym d.geometry) c.in-Ok.ensures.ran in
    let on = goes_on d.setup h old d.half d.agrees c.args.due c.requires.due c.member.result.1.now e.0 e.1 e.3 (state_of c.done.new.self) new c.in-Ok.ran ran
    c.in-Ok-done.ensures in
    let behind = agree_behind d.setup h old d.half d.agrees c.args.due c.requires.due (state_of c.done.new.self) new on in
    record { setup = d.setup; geometry = d.geometry; timing = d.timing; half = behind.0; agrees = behind.1; lanes_agree = c.in-Ok.ensures.agree }

pub returns-in-Ok-clause-err : goal.returns-in-Ok-clause-err
returns-in-Ok-clause-err g c =
    let d = c.requires.driven in
    let e = c.member.ensures in
    let h = state_of c.args.self.now in
    let old = g.C.Chip.state c.args.chip.now in
    let new = g.C.Chip.state c.run_due.new.chip in
    let ran = subst (λ (x : Geometry). HasRun old x c.args.due c.member.result.1.now c.in-Ok.ran new) (sym d.geometry) c.in-Ok.ensures.ran in
    let after = after_due h c.args.due (replies_of h.accepted new.faults c.args.due c.in-Ok.ran) in
    kept_by h after old new c.args.due
    (goes_on d.setup h old d.half d.agrees c.args.due c.requires.due c.member.result.1.now e.0 e.1 e.3 after new c.in-Ok.ran ran refl)

pub returns-clause-err : goal.returns-clause-err
returns-clause-err g c =
    let d = c.requires.driven in
    let e = c.member.ensures in
    let h = state_of c.args.self.now in
    let old = g.C.Chip.state c.args.chip.now in
    let new = g.C.Chip.state c.run_due.new.chip in
    let left = fault_leaves d.setup h old d.half d.agrees c.args.due c.requires.due c.member.result.1.now e.0 e.1 e.3
    c.in-Err.fault c.args.due.lun new c.in-Err.ensures.err in
    subst (λ f. AfterPhaseFault h f old new) (sym c.fault_of.ensures) left

pub returns-clause-told : goal.returns-clause-told
returns-clause-told g c =
    let d = c.requires.driven in
    let e = c.member.ensures in
    let h = state_of c.args.self.now in
    let told = fault_is d.setup h (g.C.Chip.state c.args.chip.now) d.half d.agrees c.args.due c.requires.due c.member.result.1.now e.0 e.1 e.3
    c.in-Err.fault c.args.due.lun refl c.in-Err.ensures.not_ready in
    subst (IsFaultOf h) (sym c.fault_of.ensures) told
