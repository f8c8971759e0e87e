-- What a planning and a bus phase of a channel come to.
use Rattle.std.proofs.Common.{◌≡◌, ℕ, inl, inr, List, Some, None, Result, Ok, Err, IfOk, IfErr, refl, sym, ap, ◌∙◌, subst}
use Rattle.onfi_request.specs.declared.reply.Reply.{Reply}
use Rattle.onfi_request.specs.declared.request.Item.{Item}
use Rattle.onfi_request.specs.declared.want.Want.{Want}
use Rattle.onfi_chip.specs.declared.fault.PostFault.{PostFault}
use Rattle.onfi_chip.specs.declared.fault.PostFault.TheVariants as post_fault
use Rattle.onfi_chip.specs.Chip.{Chip}
use Rattle.onfi_lun.specs.declared.drive.DriveFault.{DriveFault}
use Rattle.onfi_lun.specs.declared.drive.DriveFault.TheVariants as drive
use Rattle.onfi_flight.specs.declared.due.Due.{Due}
use Rattle.onfi_core.specs.declared.event.Event.TheVariants as event
use Rattle.onfi_core.specs.declared.half.PlanRefusal.{PlanRefusal}
use Rattle.onfi_core.specs.declared.half.PlanRefusal.TheVariants as refused
use Rattle.onfi_core.specs.declared.outcome.Cause.{Cause}
use Rattle.onfi_core.specs.declared.outcome.Cause.TheVariants as cause
use Rattle.onfi_core.specs.declared.outcome.Outcome.TheVariants as outcome
use Rattle.onfi_lun.specs.declared.phase_result.PhaseResult.{PhaseResult}
use Rattle.onfi_core.specs.declared.setup.Setup.{Setup}
use Rattle.onfi_lun.specs.Drive.{HasRun, AfterDrive, IsStatus}
use Rattle.onfi_flight.specs.Flight.{member_of, move_of}
use Rattle.onfi_core.specs.Dues.{IsDue, after_due, left_by, replies_of}
use Rattle.onfi_core.specs.Kept.{ChipAgrees, IsSound}
use Rattle.onfi_core.specs.Reaching.{PlannedStep}
use Rattle.onfi_core.specs.State.{HalfState, ChannelState, Planning, item_at}
use Rattle.onfi_core.specs.Steps.{Step, Plans, Runs, RunsOnChip, IsCauseOf, IsLostAt, IsToldAs, LacksSectors, bus_refusal, plan_refusal, planned_by, stopped_by}
use Rattle.onfi_core.specs.Refusals.{cause_of, planned_outcome, refusal_outcome}
use Rattle.onfi_core.specs.View.{HalfView, PlannedAs, PlanRefused, RefusedAs}
use Rattle.onfi_core.proofs.Driving.{asks_sectors, asks_status, ran_on_chip}
use Rattle.onfi_core.proofs.Promised.{refused_is}
use Rattle.onfi_core.proofs.Reach.{none_first, not_stopped}
use Rattle.onfi_core.proofs.Refused.{step_refused, step_does}
use Rattle.onfi_core.proofs.Stepping.{due_of}

-- Plan

pub planned_step : (s : Setup) (c : ChannelState) (channel finish : ℕ) (plan : Planning) → plan_refusal s c.half ≡ None → finish ≡ plan.finish → Plans s c.half plan → Step s c (event.Plan channel) (outcome.Planned finish) (record c { half = planned_by s c.half plan })
planned_step s c channel finish plan open' e plans =
    step_does s c (event.Plan channel) (outcome.Planned finish) (record c { half = planned_by s c.half plan }) open' (inl (plan, ap outcome.Planned e, plans, refl))

pub not_planned : (s : Setup) (c : ChannelState) (channel : ℕ) (refusal : PlanRefusal) (h : HalfState) → PlanRefused s c.half refusal h → Step s c (event.Plan channel) (refusal_outcome refusal) (record c { half = h })
not_planned s c channel (refused.Stopped cause) h (e, is) = step_refused s c (event.Plan channel) (outcome.Stopped cause) (record c { half = h }) e (ap (λ (x : HalfState). let z : ChannelState = record c { half = x } in z) is)
not_planned s c channel refused.NothingToPlan h (e, is) = step_refused s c (event.Plan channel) outcome.NothingToPlan (record c { half = h }) e (ap (λ (x : HalfState). let z : ChannelState = record c { half = x } in z) is)
not_planned s c channel (refused.Over opened) h (e, count, more, is) =
    step_does s c (event.Plan channel) (outcome.Over opened) (record c { half = h }) e (inr (inl (ap outcome.Over count, more, ap (λ (x : HalfState). let z : ChannelState = record c { half = x } in z) is)))
not_planned s c channel refused.Memory h (e, is) =
    step_does s c (event.Plan channel) (outcome.Memory None) (record c { half = h }) e (inr (inr (refl, ap (λ (x : HalfState). let z : ChannelState = record c { half = x } in z) is)))

pub planning_step : PlannedStep
planning_step s c channel (Ok finish) h (open', plan, e, plans, is) none =
    let P : HalfState → Type 0 = λ x. Step s c (event.Plan channel) (outcome.Planned finish) (record c { half = x }) in
    subst P (sym is) (planned_step s c channel finish plan open' e plans)
planning_step s c channel (Err refusal) h none r = not_planned s c channel refusal h r

-- the half stops, whatever its fields are
pub clock_stops : (inside old : HalfView) (A : Type 0) → inside ≡ old → A
    → (A × ((let h : HalfState = record inside.state { stopped = Some cause.Clock } in h) ≡ record old.state { stopped = Some cause.Clock }))
    × ((let v : HalfView = record inside { state = record inside.state { stopped = Some cause.Clock } } in v) ≡ record old { state = record inside.state { stopped = Some cause.Clock } })
clock_stops inside old A e why = (
  (why, ap (λ (v : HalfView). let h : HalfState = record v.state { stopped = Some cause.Clock } in h) e),
  ap (λ (v : HalfView). let w : HalfView = record v { state = record inside.state { stopped = Some cause.Clock } } in w) e,
)

-- what a planning came to
pub after_planning : (s : Setup) (c : ChannelState) (channel : ℕ) (old : HalfView) (result : Result ℕ PlanRefusal) (h : HalfView)
    → IfOk result (λ finish. (plan_refusal s c.half ≡ None) × (plan : Planning) × (finish ≡ plan.finish) × Plans s c.half plan × (h ≡ record old { state = planned_by s c.half plan }))
    → IfErr result (λ refusal. PlanRefused s c.half refusal h.state) → Step s c (event.Plan channel) (planned_outcome result) (record c { half = h.state })
after_planning s c channel old (Ok finish) h (open', plan, e, plans, is) none =
    planning_step s c channel (Ok finish) h.state (open', plan, e, plans, ap (λ (v : HalfView). v.state) is) none
after_planning s c channel old (Err refusal) h none r = not_planned s c channel refusal h.state r

-- .. and it posts nothing
pub nothing_posted : (s : Setup) (c : ChannelState) (old : HalfView) (result : Result ℕ PlanRefusal) (h : HalfView)
    → IfOk result (λ finish. (plan_refusal s c.half ≡ None) × (plan : Planning) × (finish ≡ plan.finish) × Plans s c.half plan × (h ≡ record old { state = planned_by s c.half plan }))
    → IfErr result (λ refusal. PlanRefused s c.half refusal h.state) → h.state.posted ≡ c.half.posted
nothing_posted s c old (Ok finish) h (open', plan, e, plans, is) none = ap (λ (v : HalfView). v.state.posted) is
nothing_posted s c old (Err refusal) h none r = ap (λ (x : HalfState). x.posted) (refused_is s c.half refusal h.state r)

-- Bus

pub run_faults : (accepted : List Item) (group : List Want) (phase start : ℕ) (chip chip' : Chip) (replies : List Reply) → RunsOnChip accepted group phase start chip chip' replies → chip'.faults ≡ chip.faults
run_faults accepted group phase start chip chip' replies (inl (inl c, none)) = ap (λ (x : Chip). x.faults) c.done.state
run_faults accepted group phase start chip chip' replies (inl (inr c, none)) = ap (λ (x : Chip). x.faults) c.done.state
run_faults accepted group phase start chip chip' replies (inr (member, answer, c, one)) = ap (λ (x : Chip). x.faults) c.done.state

pub going_on : (h : HalfState) → bus_refusal h ≡ None → h.stopped ≡ None
going_on h open' = not_stopped h.stopped (none_first _ _ open')

-- the chip failed so that the channel stops for that cause
abbrev pub IsLostBy : ChannelState → Cause → Chip → Type 0
IsLostBy c stop chip' = (fault : PostFault) × IsToldAs fault stop × IsLostAt c fault chip'

module _ (s : Setup) (c : ChannelState) (sound : IsSound s c.half) (agrees : ChipAgrees s c.half c.chip) (due : Due) (is : IsDue c.half due) (open' : bus_refusal c.half ≡ None) (item : Item) (member : (m : Want) × (member_of due.group due.phase ≡ Some m) × (item ≡ item_at c.half.accepted m.id)) where
  -- why the channel stops
  pub cause_is : (fault : DriveFault) (stop : Cause) → cause_of fault due.lun ≡ Some stop → (fault ≡ drive.NotReady → IsStatus due item) → IsCauseOf c.half stop
  cause_is drive.Bus stop e status = let q : cause.Bus ≡ stop = cc in subst (IsCauseOf c.half) q tt
  cause_is drive.NotReady stop e status =
      let q : cause.NotReady due.lun ≡ stop = cc in
      let d = due_of s c.half due sound is in
      let asks = asks_status s c.half c.chip sound agrees due is member.0 member.1 item member.2 (status refl) in
      subst (IsCauseOf c.half) q (move_of due, due.start, left_by c.half.books c.half.left due, d.comes, d.lun, asks)
  cause_is drive.Memory stop e status = cc

  -- what a phase that wasn't run leaves of the chip
  pub lost_by : (fault : DriveFault) (stop : Cause) (chip' : Chip) → cause_of fault due.lun ≡ Some stop → AfterDrive due item fault c.chip chip' → IsLostBy c stop chip'
  lost_by drive.Bus stop chip' e (inl lost) = let told : stop ≡ cause.Bus = cc in (post_fault.Bus, told, record { faults = lost.faults; why = inl lost.rose })
  lost_by drive.Bus stop chip' e (inr none) =
      let told : stop ≡ cause.Bus = cc in
      let asks = asks_sectors s c.half c.chip sound agrees due is member.0 member.1 item member.2 none.post none.sectors in
      let lacks : LacksSectors c post_fault.Bus chip' = record { bus = refl; same = none.same; asked = (move_of due, due.start, left_by c.half.books c.half.left due, (due_of s c.half due sound is).comes, asks) } in
      (post_fault.Bus, told, record { faults = ap (λ (x : Chip). x.faults) none.same; why = inr lacks })
  lost_by drive.NotReady stop chip' e lost = let told : stop ≡ cause.NotReady due.lun = cc in (post_fault.NotReady, (due.lun, told), record { faults = lost.faults; why = inl lost.rose })
  lost_by drive.Memory stop chip' e same = cc

  pub ran_step : (channel : ℕ) (chip' : Chip) (given : PhaseResult) (h : HalfState) → HasRun c.chip s.geometry due item given chip' → h ≡ after_due c.half due (replies_of c.half.accepted chip'.faults due given) → Step s c (event.Bus channel) (outcome.Phase due.start) (record c { half = h; chip = chip' })
  ran_step channel chip' given h has_run is_after =
      let on = ran_on_chip s c.half c.chip sound agrees due is member.0 member.1 item member.2 chip' given has_run in
      let faults = run_faults c.half.accepted due.group due.phase due.start c.chip chip' _ on in
      let e : h ≡ after_due c.half due (replies_of c.half.accepted c.chip.faults due given) =
      is_after ∙ ap (λ fs. after_due c.half due (replies_of c.half.accepted fs due given)) faults in
      let c' : ChannelState = record c { half = h; chip = chip' } in
      let runs : Runs c c' due.start = record {
        move = move_of due;
        left = left_by c.half.books c.half.left due;
        next = (due_of s c.half due sound is).comes;
        group = due.group;
        phase = due.phase;
        is = (due_of s c.half due sound is).phase;
        chip = chip';
        replies = replies_of c.half.accepted c.chip.faults due given;
        on_chip = on;
        after = ap (λ (x : HalfState). let z : ChannelState = record c { half = x; chip = chip' } in z) e;
      } in
      step_does s c (event.Bus channel) (outcome.Phase due.start) c' open' (inl (due.start, refl, runs))

-- the channel stops
pub stop_step : (s : Setup) (c : ChannelState) (channel : ℕ) (stop : Cause) (chip' : Chip) (h : HalfState) → bus_refusal c.half ≡ None → IsCauseOf c.half stop → IsLostBy c stop chip' → h ≡ record c.half { stopped = Some stop } → Step s c (event.Bus channel) (outcome.Stopped stop) (record c { half = h; chip = chip' })
stop_step s c channel stop chip' h open' why (fault, told, lost) is =
    let after : (let z : ChannelState = record c { half = h; chip = chip' } in z) ≡ record (stopped_by stop c) { chip = chip' } = ap (λ (x : HalfState). let z : ChannelState = record c { half = x; chip = chip' } in z) is in
    step_does s c (event.Bus channel) (outcome.Stopped stop) (record c { half = h; chip = chip' }) open' (inr (inl (stop, why, refl, record { chip = chip'; fault = fault; told = told; lost = lost; after = after })))

-- refused memory leaves the chip
pub kept_chip : (due : Due) (item : Item) (fault : DriveFault) (lun : ℕ) (chip chip' : Chip) → cause_of fault lun ≡ None → AfterDrive due item fault chip chip' → chip' ≡ chip
kept_chip due item drive.Bus lun chip chip' e lost = cc
kept_chip due item drive.NotReady lun chip chip' e lost = cc
kept_chip due item drive.Memory lun chip chip' e same = same

-- .. and its LUNs
pub kept_lanes : {A : Type 0} (fault : DriveFault) (lun : ℕ) (lanes lanes' : A) → cause_of fault lun ≡ None → (fault ≡ drive.Memory → lanes' ≡ lanes) → lanes' ≡ lanes
kept_lanes drive.Bus lun lanes lanes' e same = cc
kept_lanes drive.NotReady lun lanes lanes' e same = cc
kept_lanes drive.Memory lun lanes lanes' e same = same refl

-- a phase lacks memory
pub short_step : (s : Setup) (c : ChannelState) (channel : ℕ) (chip' : Chip) → bus_refusal c.half ≡ None → chip' ≡ c.chip → Step s c (event.Bus channel) (outcome.Memory None) (record c { chip = chip' })
short_step s c channel chip' open' same =
    step_does s c (event.Bus channel) (outcome.Memory None) (record c { chip = chip' }) open' (inr (inr (refl, ap (λ (x : Chip). let z : ChannelState = record c { chip = x } in z) same)))

-- a planning stops a half, or leaves it as it was
pub going_before : (old h : HalfView) (result : Result ℕ PlanRefusal) → PlannedAs old h result → RefusedAs old h result → h.state.stopped ≡ None → old.state.stopped ≡ None
going_before old h (Ok finish) (open', plan, e, plans, is) none going = sym (ap (λ (v : HalfView). v.state.stopped) is) ∙ going
going_before old h (Err (refused.Stopped cause)) none ((e, is), same) going = let q : Some cause ≡ None = sym (ap (λ (x : HalfState). x.stopped) is) ∙ going in cc
going_before old h (Err refused.NothingToPlan) none ((e, is), same) going = sym (ap (λ (x : HalfState). x.stopped) is) ∙ going
going_before old h (Err (refused.Over opened)) none ((e, count, more, is), same) going = sym (ap (λ (x : HalfState). x.stopped) is) ∙ going
going_before old h (Err refused.Memory) none ((e, is), same) going = sym (ap (λ (x : HalfState). x.stopped) is) ∙ going

-- why nothing was planned
pub refused_alone : (s : Setup) (c : HalfState) (result : Result ℕ PlanRefusal) (h old : HalfView) → IfErr result (λ refusal. PlanRefused s c refusal h.state × (h ≡ record old { state = h.state })) → IfErr result (λ refusal. PlanRefused s c refusal h.state)
refused_alone s c (Ok finish) h old r = tt
refused_alone s c (Err refusal) h old r = r.0
