-- A half with its chip: what its calls come to, and what they keep.
use Rattle.std.proofs.Common.{◌≡◌, ℕ, ◌<◌, ◌≤◌, ◌^◌, List, [], ◌∷◌, ◌++◌, None, Option, Result, Ok, Err, IfOk, IfErr, refl, sym, ap, ◌∙◌, subst, arith}
use Rattle.std.specs.Prelude.{IfSome, replicate}
use Rattle.std.specs.List.{filter}
use Rattle.onfi_addr.specs.declared.geometry.Geometry.{Geometry}
use Rattle.onfi_request.specs.declared.request.Item.{Item}
use Rattle.onfi_request.specs.declared.reply.Reply.{Reply}
use Rattle.onfi_chip.specs.Chip.{Chip}
use Rattle.onfi_chip.specs.Chip.Lun.{Idle}
use Rattle.onfi_die.specs.Order.{AreRightfulIn}
use Rattle.onfi_flight.specs.declared.due.Due.{Due}
use Rattle.onfi_core.specs.declared.event.Event.TheVariants as event
use Rattle.onfi_core.specs.declared.half.PlanRefusal.{PlanRefusal}
use Rattle.onfi_core.specs.declared.drive.PhaseStop.{PhaseStop}
use Rattle.onfi_core.specs.declared.drive.PhaseStop.TheVariants as phase
use Rattle.onfi_core.specs.declared.outcome.Outcome.{Outcome}
use Rattle.onfi_core.specs.declared.setup.Setup.{Setup}
use Rattle.onfi_flight.specs.Flight.{move_of}
use Rattle.onfi_core.specs.Dues.{IsDue, left_by}
use Rattle.onfi_core.specs.Kept.{first_half}
use Rattle.onfi_core.specs.Queues.{IsFresh}
use Rattle.onfi_core.specs.Reaching.{Reaches}
use Rattle.onfi_core.specs.Refusals.{phase_outcome, planned_outcome}
use Rattle.onfi_core.specs.State.{HalfState, ChannelState, Planning, channel_with, is_to, quiet}
use Rattle.onfi_core.specs.Steps.{GoesOut, Step, accept_refusal, accepting}
use Rattle.onfi_core.specs.View.{HalfView, IsKeptByPhase, IsOldest, PlannedAs, RefusedAs}
use Rattle.onfi_core.specs.View.{IsNext as IsHostsNext}
use Rattle.onfi_core.proofs.HeldFor.{next_behind}
use Rattle.onfi_core.proofs.Stepping.{due_of}
use Rattle.onfi_core.proofs.Reaching.{accepting_reached, batch_reached, events_reach, opened_reaches, posting_reached, step_reaches}
use Rattle.onfi_core.proofs.Promised.{planned_last, refused_is}
use Rattle.onfi_core.proofs.Running.{after_planning, going_before, nothing_posted, refused_alone}
use Rattle.onfi_lun.specs.declared.lanes.any_lun.AnyLun.{AnyLun}
use Rattle.onfi_lun.specs.Lanes.{LanesAgree}
use Rattle.onfi_reply.specs.Ends.{PosterView}
use Rattle.onfi_reply.specs.Replies.{IsNext}
use Rattle.onfi_seq.specs.declared.ran.Ran.{Ran}
use Rattle.onfi_seq.specs.declared.ran.Ran.TheVariants as ran
use Rattle.onfi_seq.specs.Driver.{DriverFields, DriverView, IsAt, IsDriven, RanTo, RunsBy, StartsNext, ran_of}

-- a half of which neither what is accepted nor what is posted changed
pub quiet_is : (h h' : HalfState) (chip chip' : Chip) → h'.accepted ≡ h.accepted → h'.posted ≡ h.posted → (let z : ChannelState = record (quiet h chip) { half = h'; chip = chip' } in z) ≡ quiet h' chip'
quiet_is h h' chip chip' accepted posted =
    ap (λ (xs : List Item). let z : ChannelState = record { half = h'; chip = chip'; sent = xs; waiting = []; collected = h.posted } in z) (sym accepted)
    ∙ ap (λ (rs : List Reply). let z : ChannelState = record { half = h'; chip = chip'; sent = h'.accepted; waiting = []; collected = rs } in z) (sym posted)

-- Opening

pub driven_opened : (Such : Planning → Type 0) (s : Setup) (h : HalfView) (chip : Chip) (lanes : List AnyLun) → h ≡ record { setup = s; state = first_half s; lent = None } → IsFresh s chip → ((other : Chip) → other.luns ≡ replicate s.geometry.lun_count Idle → LanesAgree other lanes) → IsDriven Such h.setup h.lent h.state chip lanes
driven_opened Such s h chip lanes is fresh agree =
    let here : ChannelState = quiet (first_half s) chip in
    let opened : IsDriven Such s None (first_half s) chip lanes = record {
      settled = refl;
      reached = opened_reaches Such s here (chip.faults, chip.failures, ap (λ (x : Chip). quiet (first_half s) x) fresh);
      lanes_are = λ going. agree chip (ap (λ (x : Chip). x.luns) fresh);
    } in
    subst (λ (v : HalfView). IsDriven Such v.setup v.lent v.state chip lanes) (sym is) opened

-- What holds of a driver, of its fields and back
module _ {C : Type 0} where
  pub within : (P : DriverFields → Type 0) (inside now : DriverView C) → inside ≡ now → P now.0 → P inside.0
  within P inside now is h = subst (λ (x : DriverView C). P x.0) (sym is) h

  pub outside : (state : C → Chip) (P : DriverFields → Chip → Type 0) (inside now : DriverView C) → inside ≡ now → P inside.0 (state inside.1) → P now.0 (state now.1)
  outside state P inside now is h = subst (λ (x : DriverView C). P x.0 (state x.1)) is h

-- what is due is what starts next
pub starts_next : (Such : Planning → Type 0) (s : Setup) (h : HalfState) (chip : Chip) → Reaches Such s (quiet h chip) → (due : Due) → IsDue h due → StartsNext h due.start
starts_next Such s h chip reached due is = record { move = move_of due; left = left_by h.books h.left due; next = (due_of s h due (events_reach Such s (quiet h chip) reached).0.half.sound is).comes }

-- .. before 2^63 ns
pub due_time : (Such : Planning → Type 0) (s : Setup) (h : HalfState) (chip : Chip) → Reaches Such s (quiet h chip) → (due : Due) → IsDue h due → due.start < 2 ^ 63
due_time Such s h chip reached due is = (due_of s h due (events_reach Such s (quiet h chip) reached).0.half.sound is).time

-- .. and was due where it ran
pub runs_by : (now : ℕ) (h : HalfState) (start : ℕ) (result : Ran) → StartsNext h start → start ≤ now → IsAt start result → RunsBy now h result
runs_by now h start (ran.Phase at) next low e = (subst (StartsNext h) (sym e) next, omega (arith, low, e))
runs_by now h start (ran.Stopped cause) next low e = λ _. (start, next, low)
runs_by now h start ran.Memory next low e = (start, next, low)
runs_by now h start (ran.NotBefore at) next low e = absurd e
runs_by now h start ran.NoPhase next low e = absurd e

-- Accepting, and the batch

pub driven_accepting : (Such : Planning → Type 0) (s : Setup) (lent : Option Reply) (h : HalfState) (chip : Chip) (lanes : List AnyLun) (x : Item) → accept_refusal h ≡ None → IsHostsNext s h x → IsDriven Such s lent h chip lanes → IsDriven Such s lent (accepting s h x) chip lanes
driven_accepting Such s lent h chip lanes x room next driven = record {
  settled = driven.settled;
  reached = (accepting_reached Such s h chip x room next).1 driven.reached;
  lanes_are = driven.lanes_are;
}

pub driven_batch : (Such : Planning → Type 0) (s : Setup) (lent : Option Reply) (h : HalfState) (chip : Chip) (lanes : List AnyLun) (batch : ℕ) → 1 ≤ batch → batch ≤ 8 → IsDriven Such s lent h chip lanes → IsDriven Such s lent (record h { batch = batch }) chip lanes
driven_batch Such s lent h chip lanes batch some few driven = record {
  settled = driven.settled;
  reached = (batch_reached Such s (quiet h chip) batch some few).1 driven.reached;
  lanes_are = driven.lanes_are;
}

-- Planning

pub accepted_kept : (old h : HalfView) (result : Result ℕ PlanRefusal) → PlannedAs old h result → RefusedAs old h result → h.state.accepted ≡ old.state.accepted
accepted_kept old h (Ok finish) (open', plan, e, plans, is) none = ap (λ (v : HalfView). v.state.accepted) is
accepted_kept old h (Err refusal) none why = ap (λ (x : HalfState). x.accepted) (refused_is old.setup old.state refusal h.state why.0)

pub posted_kept : (old h : HalfView) (chip : Chip) (result : Result ℕ PlanRefusal) → PlannedAs old h result → RefusedAs old h result → h.state.posted ≡ old.state.posted
posted_kept old h chip result planned why = nothing_posted old.setup (quiet old.state chip) old result h planned (refused_alone old.setup old.state result h old why)

pub planning_step : (old h : HalfView) (chip : Chip) (channel : ℕ) (result : Result ℕ PlanRefusal) → PlannedAs old h result → RefusedAs old h result → Step old.setup (quiet old.state chip) (event.Plan channel) (planned_outcome result) (quiet h.state chip)
planning_step old h chip channel result planned why =
    let step = after_planning old.setup (quiet old.state chip) channel old result h planned (refused_alone old.setup old.state result h old why) in
    subst (λ (c : ChannelState). Step old.setup (quiet old.state chip) (event.Plan channel) (planned_outcome result) c) (quiet_is old.state h.state chip chip (accepted_kept old h result planned why) (posted_kept old h chip result planned why)) step

pub driven_planned : (Such : Planning → Type 0) (old h : HalfView) (chip : Chip) (lanes : List AnyLun) (result : Result ℕ PlanRefusal) → IsDriven Such old.setup old.lent old.state chip lanes → PlannedAs old h result → IfOk result (λ _. IfSome h.state.last Such) → RefusedAs old h result → h.lent ≡ None → h.setup ≡ old.setup → IsDriven Such h.setup h.lent h.state chip lanes
driven_planned Such old h chip lanes result driven planned new why settled setup =
    let last = planned_last Such old.setup old.state result h.state new (refused_alone old.setup old.state result h old why) (events_reach Such old.setup (quiet old.state chip) driven.reached).1 in
    let reached = step_reaches Such old.setup (quiet old.state chip) (event.Plan 0) (planned_outcome result) (quiet h.state chip) driven.reached (planning_step old h chip 0 result planned why) (λ _ _. last) in
    record {
      settled = settled;
      reached = subst (λ (s : Setup). Reaches Such s (quiet h.state chip)) (sym setup) reached;
      lanes_are = λ going. driven.lanes_are (going_before old h result planned why going);
    }

-- Phases

-- the bus event came to that
pub ran_to : (s : Setup) (c c' : ChannelState) (came : Result ℕ PhaseStop) → ((channel : ℕ) → Step s c (event.Bus channel) (phase_outcome came) c') → IfErr came (λ stop. stop ≡ phase.Memory → c' ≡ c) → RanTo s c (ran_of came) c'
ran_to s c c' (Ok start) step same = step
ran_to s c c' (Err (phase.Stopped cause)) step same = step
ran_to s c c' (Err phase.Memory) step same = (step, same refl)

pub is_at : (due : ℕ) (came : Result ℕ PhaseStop) → IfOk came (λ start. start ≡ due) → IsAt due (ran_of came)
is_at due (Ok start) e = e
is_at due (Err (phase.Stopped cause)) e = tt
is_at due (Err phase.Memory) e = tt

-- .. where nothing on the way changed
pub same_quiet : (old new : HalfView) (chip chip' : Chip) (came : Result ℕ PhaseStop) → IsKeptByPhase old new → IfErr came (λ stop. stop ≡ phase.Memory → (new ≡ old) × (chip' ≡ chip))
    → IfErr came (λ stop. stop ≡ phase.Memory → (let z : ChannelState = quiet new.state chip' in z) ≡ quiet old.state chip)
same_quiet old new chip chip' (Ok start) kept same = tt
same_quiet old new chip chip' (Err stop) kept same = λ e. (let (half, lost) = same e in rw (half, lost) refl)

pub phase_step : (old new : HalfView) (chip chip' : Chip) (channel : ℕ) (o : Outcome) → IsKeptByPhase old new
    → ((c : ChannelState) (n : ℕ) → Step old.setup (channel_with c old.state chip) (event.Bus n) o (channel_with c new.state chip')) → Step old.setup (quiet old.state chip) (event.Bus channel) o (quiet new.state chip')
phase_step old new chip chip' channel o kept step =
    subst (λ (c : ChannelState). Step old.setup (quiet old.state chip) (event.Bus channel) o c) (quiet_is old.state new.state chip chip' kept.accepted kept.posted) (step (quiet old.state chip) channel)

-- events reach the channel after it
pub driven_ran : (Such : Planning → Type 0) (old new : HalfView) (chip chip' : Chip) (lanes lanes' : List AnyLun) (o : Outcome) → IsKeptByPhase old new
    → ((c : ChannelState) (n : ℕ) → Step old.setup (channel_with c old.state chip) (event.Bus n) o (channel_with c new.state chip')) → (new.state.stopped ≡ None → LanesAgree chip' lanes')
    → IsDriven Such old.setup old.lent old.state chip lanes → IsDriven Such new.setup new.lent new.state chip' lanes'
driven_ran Such old new chip chip' lanes lanes' o kept step agree driven =
    let last = subst (λ (l : Option Planning). IfSome l Such) (sym kept.last) (events_reach Such old.setup (quiet old.state chip) driven.reached).1 in
    let reached = step_reaches Such old.setup (quiet old.state chip) (event.Bus 0) o (quiet new.state chip') driven.reached (phase_step old new chip chip' 0 o kept step) (λ _ _. last) in
    record {
      settled = kept.lent ∙ driven.settled;
      reached = subst (λ (s : Setup). Reaches Such s (quiet new.state chip')) (sym kept.setup) reached;
      lanes_are = agree;
    }

-- Posts

module _ (Such : Planning → Type 0) (s : Setup) (h : HalfState) (chip : Chip) (reached : Reaches Such s (quiet h chip)) (host : ℕ) (r : Reply) where
  pub may_post : (p : PosterView) → IsOldest host h.held r → p.opened.host ≡ host → p.opened.geometry ≡ s.geometry → p.posted ≡ filter (is_to host) h.posted → IsNext p.opened p.posted r
  may_post p oldest host_is geometry posted =
      let after : HalfState = record h { held = oldest.before ++ oldest.behind; posted = h.posted ++ r ∷ [] } in
      let goes : GoesOut h after host r = record { before = oldest.before; behind = oldest.behind; held = oldest.is; oldest = oldest.none; own = oldest.own; after = refl } in
      let right = next_behind s (quiet h chip) after host r (events_reach Such s (quiet h chip) reached).0 goes in
      let here = subst (λ (x : Geometry). AreRightfulIn x r (filter (is_to host) h.posted ++ r ∷ [])) (sym geometry) right in
      record {
        host = oldest.own ∙ sym host_is;
        rightful = subst (λ (rs : List Reply). AreRightfulIn p.opened.geometry r (rs ++ r ∷ [])) (sym posted) here;
      }

  pub driven_posted : (lent : Option Reply) (h' : HalfState) (lanes : List AnyLun) → GoesOut h h' host r → lent ≡ None → (h.stopped ≡ None → LanesAgree chip lanes) → IsDriven Such s lent h' chip lanes
  driven_posted lent h' lanes goes settled agree = record {
    settled = settled;
    reached = (posting_reached Such s h h' chip host r goes).1 reached;
    lanes_are = λ going. agree (sym (ap (λ (x : HalfState). x.stopped) goes.after) ∙ going);
  }
