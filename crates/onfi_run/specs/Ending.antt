-- How the threads of channels go on and end, and what is reported of a channel.
use Rattle.std.specs.Prelude.{◌≡◌, ℕ, ◌+◌, ◌-◌, ◌^◌, ◌||◌, nat_le, Bool, true, false, if◌then◌else◌, List, Option, Some, None}
use Rattle.onfi_core.specs.declared.setup.Choice.{Choice}
use Rattle.onfi_core.specs.declared.setup.Choice.TheVariants.{InOrder, NextPhase}
use Rattle.onfi_core.specs.State.{Planning}
use Rattle.onfi_core.specs.Steps.{none_left}
use Rattle.onfi_queue.specs.Ends.{HostView}
use Rattle.onfi_reply.specs.Ends.{InboxView}
use Rattle.onfi_seq.specs.declared.drained.Drained.{Drained}
use Rattle.onfi_seq.specs.declared.drained.Drained.TheVariants as drained
use Rattle.onfi_seq.specs.Drained.{Drains, TurnPlans}
use Rattle.onfi_seq.specs.NoClock.{timed_end}
use Rattle.onfi_seq.specs.declared.turn.TurnAt.{TurnAt}
use Rattle.onfi_seq.specs.declared.turn.TurnAt.TheVariants as turn
use Rattle.onfi_seq.specs.Sequencer.{Seen}
use Rattle.onfi_seq.specs.Turned.{Turned}
use Rattle.onfi_run.specs.declared.channel.Drained.{Drained as DrainedAs}
use Rattle.onfi_run.specs.declared.progress.Progress.{Progress}
use Rattle.onfi_run.specs.declared.progress.Progress.TheVariants as progress
use Rattle.onfi_run.specs.declared.channel_end.ChannelEnd.{ChannelEnd}
use Rattle.onfi_run.specs.declared.channel_end.ChannelEnd.TheVariants as end

-- ---- turns
-- what a turn came to for its thread, where no phase is left after it, or some is
abbrev pub progress_of : Bool → TurnAt → Progress
progress_of none (turn.Stopped cause) = progress.Stopped cause
progress_of true (turn.Over opened) = progress.Over opened
progress_of false (turn.Over opened) = progress.Moved
progress_of true turn.Memory = progress.Starved
progress_of false turn.Memory = progress.Refused
progress_of none turn.Phase = progress.Advanced
progress_of none turn.Planned = progress.Advanced
progress_of none turn.Posted = progress.Moved
progress_of none turn.Accepted = progress.Moved
progress_of none (turn.Waits until) = progress.Waits until
progress_of none turn.PostFull = progress.Quiet
progress_of none turn.Idle = progress.Quiet

-- the greatest moment, which is that of turns in a run without a clock
abbrev pub no_clock : ℕ
no_clock = 2 ^ 64 - 1

-- a turn of a sequencer at that moment came to that; what it planned is such
pub record Proceeds (Such : Planning → Type 0) (now : ℕ) (q : Seen) (p : Progress) (q' : Seen) : Type 0 where
  pub answer : TurnAt
  pub turned : Turned now q answer q'
  pub planned : TurnPlans Such answer q'
  pub told : p ≡ progress_of (none_left q'.0.half) answer

-- memory was refused
abbrev pub is_refusal : Progress → Bool
is_refusal progress.Refused = true
is_refusal progress.Starved = true
is_refusal _ = false

-- ---- threads
-- how a channel's thread ends after a turn that came to this, if it does: `spent` says that memory was refused too often, `all_ended` that the hosts have ended
abbrev pub thread_end : Bool → Bool → Progress → Option ChannelEnd
thread_end spent all_ended progress.Advanced = None
thread_end spent all_ended progress.Moved = None
thread_end spent all_ended (progress.Waits until) = None
thread_end spent all_ended progress.Quiet = if all_ended then Some end.Done else None
thread_end spent all_ended progress.Refused = if spent then Some end.Unfinished else None
thread_end spent all_ended progress.Starved = Some end.Unfinished
thread_end spent all_ended (progress.Stopped cause) = Some (end.Stopped cause)
thread_end spent all_ended (progress.Over opened) = Some (end.Over opened)

-- one refusal more is the thousandth since the last phase or plan
abbrev pub is_spent : ℕ → Bool
is_spent refusals = nat_le 999 refusals

-- how many there are after a turn that came to this
abbrev pub refusals_behind : ℕ → Progress → ℕ
refusals_behind refusals progress.Advanced = 0
refusals_behind refusals progress.Refused = if is_spent refusals then refusals else refusals + 1
refusals_behind refusals _ = refusals

-- ---- channels
-- how a draining ended; memory is reported apart
abbrev pub end_of : Drained → ChannelEnd
end_of drained.Empty = end.Done
end_of drained.Memory = end.Done
end_of drained.TurnsSpent = end.Unfinished
end_of (drained.Stopped cause) = end.Stopped cause
end_of (drained.Over opened) = end.Over opened

abbrev pub is_memory : Drained → Bool
is_memory drained.Memory = true
is_memory _ = false

-- a draining of a sequencer came to that: at most 1,000,000 turns, of which each plan is such; memory was refused to a turn of the sequencer, ever, or to the draining
pub record DrainsTo (Such : Planning → Type 0) (q : Seen) (hosts : List HostView) (inboxes : List InboxView) (d : DrainedAs) (q' : Seen) (inboxes' : List InboxView) : Type 0 where
  pub end : Drained
  pub drained : Drains Such no_clock q hosts inboxes 1000000 (timed_end end) q' inboxes'
  pub told : d.end ≡ end_of end
  pub short : d.short_of_memory ≡ (is_memory end || q'.0.short)

-- how the thread ended where it stopped or was over, else this
abbrev pub thread_or : ChannelEnd → ChannelEnd → ChannelEnd
thread_or (end.Stopped cause) other = end.Stopped cause
thread_or (end.Over opened) other = end.Over opened
thread_or end.Done other = other
thread_or end.Unfinished other = other

-- What is reported of a channel: how its draining ended. Where that left nothing to do and yet an operation has no answer, it is how the thread ended, or that memory was refused, which the last line says, or that it is unfinished.
abbrev pub channel_end : ChannelEnd → ChannelEnd → Bool → Bool → ChannelEnd
channel_end end.Done thread true short = end.Done
channel_end end.Done thread false true = thread_or thread end.Done
channel_end end.Done thread false false = thread_or thread end.Unfinished
channel_end (end.Stopped cause) thread complete short = end.Stopped cause
channel_end (end.Over opened) thread complete short = end.Over opened
channel_end end.Unfinished thread complete short = end.Unfinished

-- ---- limits
-- how many nodes a planning may open; where channels go phase by phase none is made
abbrev pub nodes_by : Choice → ℕ → Option ℕ
nodes_by InOrder limit = Some limit
nodes_by NextPhase limit = None

-- where it is over, that many nodes were opened
abbrev pub IsOverAt : Option ℕ → ChannelEnd → Type 0
IsOverAt nodes (end.Over opened) = nodes ≡ Some opened
IsOverAt nodes (end.Stopped cause) = Unit {0}
IsOverAt nodes end.Done = Unit {0}
IsOverAt nodes end.Unfinished = Unit {0}

-- .. of a turn that ends a thread
abbrev pub IsTurnOverAt : Option ℕ → Progress → Type 0
IsTurnOverAt nodes (progress.Over opened) = nodes ≡ Some opened
IsTurnOverAt nodes _ = Unit {0}
