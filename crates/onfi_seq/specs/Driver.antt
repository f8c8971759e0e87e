-- A half with its chip, as the sequencer drives them.
use Rattle.std.specs.Prelude.{◌≡◌, ◌≢◌, ◌⊎◌, ℕ, zero, suc, ◌<◌, ◌≤◌, ◌^◌, List, [], Option, None, Some, Result, Ok, Err}
use Rattle.onfi_request.specs.declared.reply.Reply.{Reply}
use Rattle.onfi_problem.specs.Moves.{Move}
use Rattle.onfi_schedule.specs.Schedule.{Schedule}
use Rattle.onfi_chip.specs.Chip.{Chip}
use Rattle.onfi_core.specs.declared.drive.PhaseStop.{PhaseStop}
use Rattle.onfi_core.specs.declared.drive.PhaseStop.TheVariants as phase
use Rattle.onfi_core.specs.declared.event.Event.TheVariants as event
use Rattle.onfi_core.specs.declared.outcome.Outcome.{Outcome}
use Rattle.onfi_core.specs.declared.outcome.Outcome.TheVariants as outcome
use Rattle.onfi_core.specs.declared.setup.Setup.{Setup}
use Rattle.onfi_core.specs.Reaching.{Reaches}
use Rattle.onfi_core.specs.State.{HalfState, ChannelState, Planning, quiet}
use Rattle.onfi_core.specs.Steps.{Comes, GoesOut, Step, bus_refusal, held_for, ready_of, wait_refusal}
use Rattle.onfi_lun.specs.declared.lanes.any_lun.AnyLun.{AnyLun}
use Rattle.onfi_lun.specs.Lanes.{LanesAgree}
use Rattle.onfi_reply.specs.Ends.{PosterView, SawFull, after_posting}
use Rattle.onfi_seq.specs.declared.offer.Offer.{Offer}
use Rattle.onfi_seq.specs.declared.offer.Offer.TheVariants as offer
use Rattle.onfi_seq.specs.declared.ran.Ran.{Ran}
use Rattle.onfi_seq.specs.declared.ran.Ran.TheVariants as ran

-- a driver but for its chip
pub record DriverFields : Type 0 where
  pub setup : Setup
  pub half : HalfState

-- what callers see of a driver; `state` says what a chip is
abbrev pub DriverView : Type 0 → Type 0
DriverView C = DriverFields × C

-- its channel, with nothing on its way
abbrev pub channel_in : {C : Type 0} → (C → Chip) → DriverView C → ChannelState
channel_in state view = quiet view.0.half (state view.1)

-- no reply is on its way out, events reach the channel, of which each plan is such, and until it stops the LUNs in their phases are the chip's
pub record IsDriven (Such : Planning → Type 0) (s : Setup) (lent : Option Reply) (h : HalfState) (chip : Chip) (lanes : List AnyLun) : Type 0 where
  pub settled : lent ≡ None
  pub reached : Reaches Such s (quiet h chip)
  pub lanes_are : h.stopped ≡ None → LanesAgree chip lanes

-- the next phase starts then
pub record StartsNext (h : HalfState) (start : ℕ) : Type 0 where
  pub move : Move
  pub left : Schedule
  pub next : Comes h move start left

-- the next phase was due by the moment
abbrev pub WasDue : ℕ → HalfState → Type 0
WasDue now h = (start : ℕ) × StartsNext h start × (start ≤ now)

-- a phase runs only where its start isn't after the moment
abbrev pub RunsBy : ℕ → HalfState → Ran → Type 0
RunsBy now h (ran.Phase start) = StartsNext h start × (start ≤ now)
RunsBy now h (ran.Stopped cause) = h.stopped ≡ None → WasDue now h
RunsBy now h ran.Memory = WasDue now h
RunsBy now h (ran.NotBefore start) = StartsNext h start × (now < start) × (start < 2 ^ 63)
RunsBy now h ran.NoPhase = Unit {0}

-- what a due phase came to
abbrev pub ran_of : Result ℕ PhaseStop → Ran
ran_of (Ok start) = ran.Phase start
ran_of (Err (phase.Stopped cause)) = ran.Stopped cause
ran_of (Err phase.Memory) = ran.Memory

-- a due phase was run: where it ran, at that start
abbrev pub IsAt : ℕ → Ran → Type 0
IsAt due (ran.Phase start) = start ≡ due
IsAt due (ran.Stopped cause) = Unit {0}
IsAt due ran.Memory = Unit {0}
IsAt due (ran.NotBefore start) = ⊥
IsAt due ran.NoPhase = ⊥

-- the bus event of the machine came to that; where it isn't made, memory was refused or no phase is left, nothing changed
abbrev pub RanTo : Setup → ChannelState → Ran → ChannelState → Type 0
RanTo s c (ran.Phase start) c' = (channel : ℕ) → Step s c (event.Bus channel) (outcome.Phase start) c'
RanTo s c (ran.Stopped cause) c' = (channel : ℕ) → Step s c (event.Bus channel) (outcome.Stopped cause) c'
RanTo s c ran.Memory c' = ((channel : ℕ) → Step s c (event.Bus channel) (outcome.Memory None) c') × (c' ≡ c)
RanTo s c (ran.NotBefore start) c' = c' ≡ c
RanTo s c ran.NoPhase c' = (bus_refusal c.half ≡ Some outcome.NoPlan) × (c' ≡ c)

-- ---- time
-- the bus was free before the moment, and waited until then; or it wasn't free before, or a wait until then is refused
abbrev pub WaitsUntil : ℕ → Setup → ChannelState → ChannelState → Type 0
WaitsUntil now s c c' =
    ((c.half.now.bus_free < now) × ((channel : ℕ) → Step s c (event.Wait channel now) (outcome.Waited now) c'))
    ⊎ ((now ≤ c.half.now.bus_free) × (c' ≡ c))
    ⊎ ((o : Outcome) × (wait_refusal now c.half ≡ Some o) × (c' ≡ c))

-- the LUN was asked as the bus is free, and said that it is ready; else nothing changed
abbrev pub Asks : Setup → ℕ → ChannelState → ChannelState → Type 0
Asks s lun c c' = ((channel : ℕ) → Step s c (event.Ready channel lun) (outcome.ReadyFrom (ready_of lun c.half)) c') ⊎ (c' ≡ c)

-- so it was with the LUNs below that number, by rising number
abbrev pub AsksBelow : Setup → ℕ → ChannelState → ChannelState → Type 0
AsksBelow s zero c c' = c' ≡ c
AsksBelow s (suc lun) c c' = (mid : ChannelState) × AsksBelow s lun c mid × Asks s lun mid c'

-- what time changes, taken from the other: from when on bus and LUNs are free, the plan's starts, and whether the plan is outdated
abbrev pub in_time : ChannelState → ChannelState → ChannelState
in_time c c' = record c {
  half = record c.half {
    now = record c.half.now { bus_free = c'.half.now.bus_free; luns = c'.half.now.luns };
    left = c'.half.left;
    outdated = c'.half.outdated;
  };
  chip = record c.chip { luns = c'.chip.luns };
}

-- time passed up to the moment: the bus waited; then LUNs were asked, unless the wait was refused
pub record Passes (now : ℕ) (s : Setup) (c c' : ChannelState) : Type 0 where
  pub known : now < 2 ^ 62
  pub mid : ChannelState
  pub waited : WaitsUntil now s c mid
  pub asked : ((now ≤ mid.half.now.bus_free) × AsksBelow s s.geometry.lun_count mid c') ⊎ ((mid.half.now.bus_free < now) × (c' ≡ mid))
  pub kept : c' ≡ in_time c c'

-- .. a moment at 2^62 ns or later is none of the channel
abbrev pub PassesTo : ℕ → Setup → ChannelState → ChannelState → Type 0
PassesTo now s c c' = ((2 ^ 62 ≤ now) × (c' ≡ c)) ⊎ Passes now s c c'

-- what came of the replies held for a host at its poster
abbrev pub Offered : ℕ → HalfState → PosterView → Offer → HalfState → PosterView → Type 0
Offered host h p offer.Posted h' p' = (r : Reply) × GoesOut h h' host r × (p' ≡ after_posting p r)
Offered host h p offer.Full h' p' = (h' ≡ h) × (p' ≡ p) × (held_for host h ≢ []) × SawFull p
Offered host h p offer.Nothing h' p' = (h' ≡ h) × (p' ≡ p) × (held_for host h ≡ [])
