use Rattle.std.proofs.Common.{◌≡◌, None, Some, refl, sym, ap, ◌∙◌, subst}
use Rattle.onfi_lun.specs.Drive.{HasRun}
use Rattle.onfi_core.specs.State.{channel_with}
use Rattle.onfi_core.specs.View.{HalfView}
use Rattle.onfi_core.specs.declared.setup.Setup.{Setup}
use Rattle.onfi_core.proofs.MayRunDue.{may_run_due}
use Rattle.onfi_core.proofs.Running.{cause_is, kept_chip, kept_lanes, lost_by, ran_step, short_step, stop_step}
use Rattle.onfi_core.proofs.drive.run_due.Goals as goal

pub run_due-requires-clause-due : goal.run_due-requires-clause-due
run_due-requires-clause-due g c =
    let h = c.args.half.now in
    let m = c.member-item.ensures in
    may_run_due h.setup (record { geometry = c.setup-setup.result.geometry; timing = c.setup-setup.result.timing }) h.state (g.C.Chip.state c.args.chip.now)
    (ap (λ (s : Setup). s.geometry) (sym c.setup-setup.ensures)) (ap (λ (s : Setup). s.timing) (sym c.setup-setup.ensures)) c.requires.sound c.requires.agree c.args.due.now c.requires.due m.0 m.1 c.member-item.result.now m.2

pub returns-in-Ok-clause-step : goal.returns-in-Ok-clause-step
returns-in-Ok-clause-step g c other channel =
    let h = c.args.half.now in
    let chip = g.C.Chip.state c.args.chip.now in
    let chip' = g.C.Chip.state c.run_due.new.chip in
    let ran : HasRun chip h.setup.geometry c.args.due.now c.member-item.result.now c.in-Ok.ran chip' = subst (λ (s : Setup). HasRun chip s.geometry c.args.due.now c.member-item.result.now c.in-Ok.ran chip') c.setup-setup.ensures c.in-Ok.ensures.ran in
    ran_step h.setup (channel_with other h.state chip) c.requires.sound c.requires.agree c.args.due.now c.requires.due c.requires.open c.member-item.result.now c.member-item.ensures
    channel chip' c.in-Ok.ran c.done.new.self.state ran (ap (λ (v : HalfView). v.state) c.done.ensures)

pub returns-in-Some-clause-step : goal.returns-in-Some-clause-step
returns-in-Some-clause-step g c other channel =
    let h = c.args.half.now in
    let chip = g.C.Chip.state c.args.chip.now in
    let chip' = g.C.Chip.state c.run_due.new.chip in
    let stops = sym c.cause_of.ensures ∙ c.in-Some.is in
    let why = cause_is h.setup (channel_with other h.state chip) c.requires.sound c.requires.agree c.args.due.now c.requires.due c.requires.open c.member-item.result.now c.member-item.ensures c.in-Err.fault c.in-Some.cause stops c.in-Err.ensures.not_ready in
    let lost = lost_by h.setup (channel_with other h.state chip) c.requires.sound c.requires.agree c.args.due.now c.requires.due c.requires.open c.member-item.result.now c.member-item.ensures c.in-Err.fault c.in-Some.cause chip' stops c.in-Err.ensures.err in
    stop_step h.setup (channel_with other h.state chip) channel c.in-Some.cause chip' c.stop.new.self.state c.requires.open why lost (ap (λ (v : HalfView). v.state) c.stop.ensures)

pub returns-in-Some-clause-lanes : goal.returns-in-Some-clause-lanes
returns-in-Some-clause-lanes g c going = absurd (let e : Some c.in-Some.cause ≡ None = sym (ap (λ (v : HalfView). v.state.stopped) c.stop.ensures) ∙ going in cc)

pub returns-in-None-clause-step : goal.returns-in-None-clause-step
returns-in-None-clause-step g c other channel =
    let h = c.args.half.now in
    let chip = g.C.Chip.state c.args.chip.now in
    let chip' = g.C.Chip.state c.run_due.new.chip in
    short_step h.setup (channel_with other h.state chip) channel chip' c.requires.open (kept_chip c.args.due.now c.member-item.result.now c.in-Err.fault c.args.due.now.lun chip chip' (sym c.cause_of.ensures ∙ c.in-None.is) c.in-Err.ensures.err)

pub returns-in-None-clause-lanes : goal.returns-in-None-clause-lanes
returns-in-None-clause-lanes g c going =
    let chip = g.C.Chip.state c.args.chip.now in
    let chip' = g.C.Chip.state c.run_due.new.chip in
    let stops = sym c.cause_of.ensures ∙ c.in-None.is in
    let same = kept_chip c.args.due.now c.member-item.result.now c.in-Err.fault c.args.due.now.lun chip chip' stops c.in-Err.ensures.err in
    let lanes = kept_lanes c.in-Err.fault c.args.due.now.lun c.args.lanes.now c.run_due.new.self stops c.in-Err.ensures.memory in
    rw (same, lanes) c.requires.lanes

pub returns-in-None-clause-memory : goal.returns-in-None-clause-memory
returns-in-None-clause-memory g c e =
    (refl, kept_chip c.args.due.now c.member-item.result.now c.in-Err.fault c.args.due.now.lun (g.C.Chip.state c.args.chip.now) (g.C.Chip.state c.run_due.new.chip) (sym c.cause_of.ensures ∙ c.in-None.is) c.in-Err.ensures.err)
