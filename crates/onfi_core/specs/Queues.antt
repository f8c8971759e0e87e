-- What callers see of a channel and of a core, and what their fields keep.
use Rattle.std.specs.Prelude.{◌≡◌, ℕ, ◌≤◌, List, [], ◌++◌, length, map, Option, Some, None, slice_get}
use Rattle.std.specs.List.{AllByRecursion as Each}
use Rattle.std.specs.VecDeque.{deque_capacity}
use Rattle.onfi_request.specs.declared.request.Item.{Item}
use Rattle.onfi_request.specs.declared.reply.Reply.{Reply}
use Rattle.onfi_chip.specs.Chip.{Chip, IsAsOpened}
use Rattle.onfi_lun.specs.declared.lanes.any_lun.AnyLun.{AnyLun}
use Rattle.onfi_lun.specs.Lanes.{LanesAgree}
use Rattle.onfi_core.specs.declared.host_queue.HostQueue.{HostQueue}
use Rattle.onfi_core.specs.declared.setup.Setup.{Setup}
use Rattle.onfi_core.specs.Kept.{first}
use Rattle.onfi_core.specs.Reaching.{Reaches}
use Rattle.onfi_core.specs.Steps.{IsAny}
use Rattle.onfi_core.specs.State.{HalfState, ChannelState, Planning, sent_by, posted_to, collected_by}

-- a channel but for its chip
pub record ChannelFields : Type 0 where
  pub setup : Setup
  pub half : HalfState
  pub sent : List Item
  pub waiting : List Item
  pub collected : List Reply

-- the state of a channel with that chip
abbrev pub state_with : ChannelFields → Chip → ChannelState
state_with fields chip = record { half = fields.half; chip = chip; sent = fields.sent; waiting = fields.waiting; collected = fields.collected }

-- what callers see of a channel, and of a core with a setup; `state` says what a chip is
abbrev pub ChannelView : Type 0 → Type 0
ChannelView C = ChannelFields × C

abbrev pub state_in : {C : Type 0} → (C → Chip) → ChannelView C → ChannelState
state_in state view = state_with view.0 (state view.1)

abbrev pub CoreView : Type 0 → Type 0
CoreView C = Setup × List (ChannelView C)

abbrev pub states_in : {C : Type 0} → (C → Chip) → CoreView C → List ChannelState
states_in state view = map (state_in state) view.1

-- a chip of the setup as it opens: all blocks erased, no program or erase yet, all LUNs idle
abbrev pub IsFresh : Setup → Chip → Type 0
IsFresh s chip = IsAsOpened s.geometry s.timing chip

-- a channel as it opens with the chip
abbrev pub opened_with : Setup → Chip → ChannelState
opened_with s chip = first s chip.faults chip.failures

-- nothing was sent, and nothing posted; there is room for that many replies
pub record IsEmptyQueue (room : ℕ) (queue : HostQueue) : Type 0 where
  pub sent : queue.sent ≡ 0
  pub empty : queue.completions.items ≡ []
  pub room_is : room ≤ deque_capacity queue.completions

-- the host's count is that of its items, and its queue holds what was posted to it and is not collected
pub record IsHostQueue (s : Setup) (c : ChannelState) (host : ℕ) (queue : HostQueue) : Type 0 where
  pub sent : queue.sent ≡ length (sent_by host c)
  pub uncollected : posted_to host c ≡ collected_by host c ++ queue.completions.items
  pub room : s.post_cap ≤ deque_capacity queue.completions

-- the queues are those of the channel, which is one that events reach; until it stops the LUNs in their phases are the chip's
pub record AreQueues (s : Setup) (lent : Option Reply) (room : ℕ) (hosts : List HostQueue) (lanes : List AnyLun) (c : ChannelState) : Type 0 where
  pub settled : lent ≡ None
  pub reached : Reaches IsAny s c
  pub lanes_are : c.half.stopped ≡ None → LanesAgree c.chip lanes
  pub room_is : s.submit_cap ≤ room
  pub count : length hosts ≡ s.hosts
  pub each : (host : ℕ) (queue : HostQueue) → slice_get hosts host ≡ Some queue → IsHostQueue s c host queue

-- the channels are those of the setup, and events reach them of which each plan is such
pub record AreChannels {C : Type 0} (state : C → Chip) (Such : Planning → Type 0) (s : Setup) (views : List (ChannelView C)) : Type 0 where
  pub count : length views ≡ s.channels
  pub each : Each (λ v. (v.0.setup ≡ s) × Reaches Such s (state_in state v)) views

-- the channels as they open with those chips
pub record AreOpened {C : Type 0} (state : C → Chip) (s : Setup) (chips : List C) (views : List (ChannelView C)) : Type 0 where
  pub setups : Each (λ v. v.0.setup ≡ s) views
  pub states : map (state_in state) views ≡ map (λ chip. opened_with s (state chip)) chips
