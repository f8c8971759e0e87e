-- When channels make turns in a run with a clock, and how busy their buses are.
use Rattle.std.specs.Prelude.{◌≡◌, ℕ, ◌+◌, ◌-◌, ◌<◌, ◌≤◌, min, max, nat_lt, if◌then◌else◌, Bool, false, List, Option, None, Some}
use Rattle.std.specs.List.{AllByRecursion as Each, Contains}
use Rattle.std.specs.Option.{is_some, unwrap_or}
use Rattle.onfi_run.specs.declared.bus_use.BusUse.{BusUse}
use Rattle.onfi_run.specs.declared.channel_end.ChannelEnd.{ChannelEnd}
use Rattle.onfi_run.specs.declared.lane.Lane.{Lane}
use Rattle.onfi_run.specs.declared.pace.Pace.{Pace}
use Rattle.onfi_run.specs.declared.progress.Progress.{Progress}
use Rattle.onfi_run.specs.declared.progress.Progress.TheVariants as progress
use Rattle.onfi_run.specs.Ending.{IsOverAt, is_spent, no_clock, refusals_behind, thread_end}
use Rattle.onfi_run.specs.Keys.{ChannelQueues}

-- a turn at `now`, after which the bus is free from `free` on: where that is later, a phase keeps it busy until then
abbrev pub bus_behind : ℕ → ℕ → BusUse → BusUse
bus_behind now free bus = if nat_lt now free then record { busy = min no_clock (bus.busy + (free - now)); until = free } else bus

-- the lesser of two moments, where the first is given
abbrev pub least_of : Option ℕ → ℕ → ℕ
least_of None due = due
least_of (Some other) due = min other due

-- from when on a turn may do something after one that came to this, where an array is done early at the moment `ready`; at the
-- greatest moment none may before a request comes
abbrev pub wakes_behind : Progress → Option ℕ → ℕ
wakes_behind (progress.Waits until) ready = least_of ready until
wakes_behind progress.Quiet ready = no_clock
wakes_behind _ ready = 0

abbrev pub pace_behind : ℕ → ℕ → Option ℕ → Progress → Bool → Pace → Pace
pace_behind now free ready p is_last pace = record { wakes = wakes_behind p ready; has_ended = is_last; bus = bus_behind now free pace.bus }

-- from when on a channel may make a turn whose bus is free from `free` on; at the greatest moment it makes none
abbrev pub due_of : Pace → ℕ → ℕ
due_of pace free = if pace.has_ended then no_clock else max pace.wakes free

-- it may make a turn at that moment: it goes on, its bus is free and what it waits for has come
pub record MayTurn (now : ℕ) (pace : Pace) (free : ℕ) : Type 0 where
  pub goes_on : pace.has_ended ≡ false
  pub awake : pace.wakes ≤ now
  pub bus : free ≤ now

-- it may make none then
abbrev pub Waits : ℕ → Pace → ℕ → Type 0
Waits now pace free = MayTurn now pace free → ⊥

-- it needs no moment after `now`: what is noted of it is due by then, or at no moment
abbrev pub NeedsNone : ℕ → ℕ → Type 0
NeedsNone now due = now < due → no_clock ≤ due

-- the moment after `now` that comes next: the least at which anything is due, if anything is
abbrev pub IsNext : ℕ → List ℕ → Option ℕ → Type 0
IsNext now dues None = Each (NeedsNone now) dues
IsNext now dues (Some next) = (now < next) × (next < no_clock) × Contains dues next × Each (λ due. now < due → next ≤ due) dues

-- a turn at that moment came to this: how it ends, if it does, is kept, and so is how often memory was refused
pub record IsTurned {X : Type 0} (now : ℕ) (p : Progress) (free : ℕ) (ready : Option ℕ) (old new : Lane X) : Type 0 where
  pub ended : new.ended ≡ unwrap_or (thread_end (is_spent old.refusals) false p) old.ended
  pub refusals : new.refusals ≡ refusals_behind old.refusals p
  pub pace : new.pace ≡ pace_behind now free ready p (is_some (thread_end (is_spent old.refusals) false p)) old.pace

-- a request came: it may make a turn as soon as its bus is free
abbrev pub woken : {X : Type 0} → Lane X → Lane X
woken lane = record lane { pace = record lane.pace { wakes = 0 } }

-- where a channel's thread is over, a planning opened as many nodes as it may
abbrev pub EndsWithin : {X : Type 0} → (X → ChannelQueues) → Lane X → Type 0
EndsWithin queues lane = IsOverAt (queues lane.channel).nodes lane.ended

-- .. which are that many
abbrev pub IsLaneWithin : {X : Type 0} → (X → ChannelQueues) → Option ℕ → Lane X → Type 0
IsLaneWithin queues nodes lane = ((queues lane.channel).nodes ≡ nodes) × EndsWithin queues lane

-- what hosts leave of a channel as it is
abbrev pub lane_key : {X : Type 0} → (X → ChannelQueues) → Lane X → ChannelQueues × ChannelEnd
lane_key queues lane = (queues lane.channel, lane.ended)
