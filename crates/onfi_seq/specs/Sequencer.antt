-- What callers see of a sequencer, what always holds of it, and what its fields keep.
use Rattle.std.specs.Prelude.{◌≡◌, ℕ, Bool, List, length, map, Some, slice_get}
use Rattle.std.specs.List.{filter}
use Rattle.atomic_table.specs.Seated.{TableId}
use Rattle.onfi_chip.specs.Chip.{Chip}
use Rattle.onfi_die.specs.Rightful.{AreRightful}
use Rattle.onfi_core.specs.declared.setup.Setup.{Setup}
use Rattle.onfi_core.specs.Kept.{AreMade, made_for}
use Rattle.onfi_core.specs.Reaching.{Reaches}
use Rattle.onfi_core.specs.State.{HalfState, ChannelState, Planning, device_for, is_from, is_to, quiet}
use Rattle.onfi_queue.specs.declared.opened.Opened.{Opened}
use Rattle.onfi_queue.specs.Ends.{IntakeView, fresh_intake}
use Rattle.onfi_reply.specs.declared.opened_for.OpenedFor.{OpenedFor}
use Rattle.onfi_reply.specs.Ends.{PosterView, fresh_poster}

-- a sequencer but for its chip; `refused` says that a planning was over, or lacked memory, since the last phase; `short` says that
-- a turn or a draining answered Memory, at any time
pub record SequencerFields : Type 0 where
  pub setup : Setup
  pub half : HalfState
  pub intake : IntakeView
  pub posters : List PosterView
  pub refused : Bool
  pub short : Bool

-- what callers see of a sequencer; and that with the state of its chip
abbrev pub SequencerView : Type 0 → Type 0
SequencerView C = SequencerFields × C

abbrev pub Seen : Type 0
Seen = SequencerFields × Chip

abbrev pub seen_in : {C : Type 0} → (C → Chip) → SequencerView C → Seen
seen_in state view = (view.0, state view.1)

-- its channel, with nothing on its way: all that was submitted is accepted, and all that was posted is collected
abbrev pub channel_of : Seen → ChannelState
channel_of q = quiet q.0.half q.1

-- ---- opening
-- what the queues of a channel of the setup are opened with
abbrev pub opened_as : Setup → ℕ → Opened
opened_as s channel = record { channel = channel; geometry = s.geometry }

abbrev pub opened_for : Setup → ℕ → ℕ → OpenedFor
opened_for s channel host = record { channel = channel; host = host; geometry = s.geometry }

-- the intake as it opened, for that channel of the setup
pub record IsFreshIntake (s : Setup) (channel : ℕ) (intake : IntakeView) : Type 0 where
  pub is : intake ≡ fresh_intake intake.queue (opened_as s channel) s.submit_cap

-- a poster as it opened, for that channel of the setup and that host
abbrev pub IsFreshPoster : Setup → ℕ → ℕ → PosterView → Type 0
IsFreshPoster s channel host p = p ≡ fresh_poster p.queue (opened_for s channel host) s.post_cap

-- the posters of the hosts of a setup as they opened, in the order of the hosts' numbers
pub record AreFreshPosters (s : Setup) (channel : ℕ) (posters : List PosterView) : Type 0 where
  pub count : length posters ≡ 4
  pub each : (host : ℕ) (p : PosterView) → slice_get posters host ≡ Some p → IsFreshPoster s channel host p

-- ---- what always holds
-- What is accepted came through the intake, and what is posted to a host went through its poster. All replies that were
-- posted are rightful in what is accepted, under the chip's faults, each place at most once. Each reply that is posted or held
-- rests on the chip's faults and on a beginning of what is accepted. The channel is one that events reach, of which each plan is such.
pub record IsRight (Such : Planning → Type 0) (q : Seen) : Type 0 where
  pub accepted : q.0.intake.accepted ≡ q.0.half.accepted
  pub posters : length q.0.posters ≡ 4
  pub posted : (host : ℕ) (p : PosterView) → slice_get q.0.posters host ≡ Some p → p.posted ≡ filter (is_to host) q.0.half.posted
  pub rightful : AreRightful (device_for q.0.setup q.1) q.0.half.accepted q.0.half.posted
  pub made : (host : ℕ) → AreMade (device_for q.0.setup q.1) q.0.half.accepted (made_for host q.0.half)
  pub reached : Reaches Such q.0.setup (channel_of q)

-- which queue an end is of, how many it holds, and what it was opened with
abbrev pub intake_ends : IntakeView → TableId × ℕ × Opened
intake_ends t = (t.queue, t.capacity, t.opened)

abbrev pub poster_ends : PosterView → TableId × ℕ × OpenedFor
poster_ends p = (p.queue, p.capacity, p.opened)

-- setup, the chip's faults, and the queues that the ends are of never change
pub record IsSameChannel (q q' : Seen) : Type 0 where
  pub setup : q'.0.setup ≡ q.0.setup
  pub faults : q'.1.faults ≡ q.1.faults
  pub intake : intake_ends q'.0.intake ≡ intake_ends q.0.intake
  pub posters : map poster_ends q'.0.posters ≡ map poster_ends q.0.posters

-- ---- what the fields keep
-- the poster is that of the host, and what it posted is what is posted to the host
pub record IsPosterFor (q : SequencerFields) (host : ℕ) (p : PosterView) : Type 0 where
  pub opened : p.opened ≡ opened_for q.setup q.intake.opened.channel host
  pub room : p.capacity ≡ q.setup.post_cap
  pub posted : p.posted ≡ filter (is_to host) q.half.posted

-- that many items of each host are accepted
pub record AreCounts (q : SequencerFields) (counts : List ℕ) : Type 0 where
  pub hosts : length counts ≡ 4
  pub each : (host count : ℕ) → slice_get counts host ≡ Some count → count ≡ length (filter (is_from host) q.half.accepted)

pub record IsKept (q : SequencerFields) (counts : List ℕ) : Type 0 where
  pub hosts : q.setup.hosts ≡ 4
  pub opened : q.intake.opened ≡ opened_as q.setup q.intake.opened.channel
  pub room : q.intake.capacity ≡ q.setup.submit_cap
  pub accepted : q.intake.accepted ≡ q.half.accepted
  pub posters : length q.posters ≡ 4
  pub each : (host : ℕ) (p : PosterView) → slice_get q.posters host ≡ Some p → IsPosterFor q host p
  pub counts_are : AreCounts q counts
