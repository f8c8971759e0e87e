-- The state of one channel.
use Rattle.std.specs.Prelude.{ℕ, ◌+◌, Bool, List, [], ◌∷◌, Option, slice_index_or}
use Rattle.std.specs.List.{filter}
use Rattle.onfi_addr.specs.declared.geometry.Geometry.{Geometry}
use Rattle.onfi_addr.specs.Rows.{plane_of_block}
use Rattle.onfi_timing.specs.declared.kind.Kind.TheVariants.{Read}
use Rattle.onfi_request.specs.declared.want.Want.{Want}
use Rattle.onfi_request.specs.declared.request.Request.{Request}
use Rattle.onfi_request.specs.declared.request.Item.{Item}
use Rattle.onfi_request.specs.declared.reply.Reply.{Reply}
use Rattle.onfi_problem.specs.Problem.{Problem}
use Rattle.onfi_schedule.specs.Schedule.{Schedule}
use Rattle.onfi_flight.specs.Flight.{Flight}
use Rattle.onfi_plan.specs.declared.plan.Certificate.{Certificate}
use Rattle.onfi_steady.specs.Waiting.{Books}
use Rattle.onfi_die.specs.Shapes.{Device, device_of}
use Rattle.onfi_chip.specs.Chip.{Chip}
use Rattle.onfi_core.specs.declared.setup.Setup.{Setup}
use Rattle.onfi_core.specs.declared.outcome.Cause.{Cause}
pub use Rattle.onfi_request.specs.Items.{is_from, is_to}

-- an accepting planning: its problem, a schedule of it with its finish, before when none ends, and the certificate of that
pub record Planning : Type 0 where
  pub problem : Problem
  pub schedule : Schedule
  pub finish : ℕ
  pub below : ℕ
  pub cert : Certificate

-- what the sequencer knows of a channel
pub record HalfState : Type 0 where
  pub accepted : List Item
  -- how many of them plans have taken
  pub planned : ℕ
  pub batch : ℕ
  -- what is left of the plan: `bus_free`, the LUN states and the wants not started, and the starts of the phases not done
  pub now : Problem
  pub left : Schedule
  -- by the next phase, where nothing is planned: who waits, how often each was passed over, and the newest program; in order none
  pub books : Option Books
  -- whether the bus has waited, or a LUN was ready sooner, since that plan was made
  pub outdated : Bool
  -- the last planning
  pub last : Option Planning
  -- replies that are made and not posted, the oldest first; and those that are posted, to whichever host
  pub held : List Reply
  pub posted : List Reply
  pub stopped : Option Cause

-- what is left of its plan
abbrev pub flight_of : HalfState → Flight
flight_of h = record { now = h.now; left = h.left }

-- how a half goes on: the problem as it stands, and what is left of its plan, or its books
pub record Way : Type 0 where
  pub now : Problem
  pub left : Schedule
  pub books : Option Books

abbrev pub way_of : HalfState → Way
way_of h = record { now = h.now; left = h.left; books = h.books }

abbrev pub with_way : HalfState → Way → HalfState
with_way h w = record h { now = w.now; left = w.left; books = w.books }

pub record ChannelState : Type 0 where
  pub half : HalfState
  pub chip : Chip
  -- what hosts submitted, how much of it waits to be accepted, and what hosts collected
  pub sent : List Item
  pub waiting : List Item
  pub collected : List Reply

-- the channel of a half with nothing on its way: all that was sent is accepted, and all that was posted is collected
abbrev pub quiet : HalfState → Chip → ChannelState
quiet h chip = record { half = h; chip = chip; sent = h.accepted; waiting = []; collected = h.posted }

-- the channel with another half and chip
abbrev pub channel_with : ChannelState → HalfState → Chip → ChannelState
channel_with c h chip = record c { half = h; chip = chip }

-- what a host sent, was posted and has collected
abbrev pub sent_by : ℕ → ChannelState → List Item
sent_by host c = filter (is_from host) c.sent

abbrev pub posted_to : ℕ → ChannelState → List Reply
posted_to host c = filter (is_to host) c.half.posted

abbrev pub collected_by : ℕ → ChannelState → List Reply
collected_by host c = filter (is_to host) c.collected

-- an item as a want; its number is its place
abbrev pub want_of : Geometry → ℕ → Item → Want
want_of geometry place x = record {
  id = place;
  kind = x.request.kind;
  lun = x.request.place.lun;
  plane = plane_of_block geometry x.request.place.block;
  block = x.request.place.block;
  page = x.request.place.page;
}

-- items as wants, the first of them at the place
abbrev pub wants_from : Geometry → ℕ → List Item → List Want
wants_from geometry place [] = []
wants_from geometry place (x ∷ xs) = want_of geometry place x ∷ wants_from geometry (place + 1) xs

abbrev pub no_item : Item
no_item = record { host = 0; serial = 0; request = record { kind = Read; place = record { lun = 0; block = 0; page = 0 }; bytes = [] } }

abbrev pub item_at : List Item → ℕ → Item
item_at accepted place = slice_index_or accepted place no_item

-- the request of a want
abbrev pub request_of : List Item → Want → Request
request_of accepted w = (item_at accepted w.id).request

-- the device of a channel: blocks of the setup's shape, and the chip's faults
abbrev pub device_for : Setup → Chip → Device
device_for s chip = device_of s.geometry chip.faults
