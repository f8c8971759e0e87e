-- What the channels of a run open with.
use Rattle.std.specs.Prelude.{◌≡◌, ℕ, ◌+◌, List, [], ◌∷◌, map, take, Option}
use Rattle.std.specs.List.{AllByRecursion as Each}
use Rattle.onfi_core.specs.declared.setup.Setup.{Setup}
use Rattle.onfi_core.specs.Kept.{first_half}
use Rattle.onfi_core.specs.Queues.{IsFresh}
use Rattle.onfi_chip.specs.SimChip.{array_times, chip_in, failing_calls, failing_statuses}
use Rattle.onfi_seq.specs.Drained.{poster_queues}
use Rattle.onfi_script.specs.declared.device.PageDevice.{PageDevice}
use Rattle.onfi_script.specs.declared.row.Row.{Row}
use Rattle.onfi_run.specs.declared.channel_end.ChannelEnd.TheVariants.{Unfinished}
use Rattle.onfi_run.specs.declared.gated.Gated.{Gated}
use Rattle.onfi_run.specs.declared.lane.Lane.{Lane}
use Rattle.onfi_run.specs.Chips.{all_on, array_time_on, fault_on, failing_on, unready_on}
use Rattle.onfi_run.specs.declared.port.Port.{Port}
use Rattle.onfi_run.specs.declared.station.Station.{Station}
use Rattle.onfi_run.specs.ByHost.{host_numbers}
use Rattle.onfi_run.specs.declared.way.Way.{Way}
use Rattle.onfi_run.specs.Ending.{IsOverAt, nodes_by}
use Rattle.onfi_run.specs.Keys.{ChannelQueues, port_places, ports_of}
use Rattle.onfi_run.specs.Arriving.{expected_of, expected_on}
use Rattle.onfi_run.specs.Setup.{SetsUp}

-- how many nodes a planning of this setup may open, if any is made
abbrev pub nodes_in : Setup → Option ℕ
nodes_in setup = nodes_by setup.choice setup.limit

-- the queues of a channel, and how many nodes a planning of it may open
abbrev pub lane_queues : {P G : Type 0} → Lane (Gated P G) → ChannelQueues
lane_queues lane = record { requests = lane.channel.sequencer.0.intake.queue; replies = poster_queues lane.channel.sequencer.0.posters; nodes = nodes_in lane.channel.sequencer.0.setup }

-- the channel of that number with that gate as it opens, over the chip that the rows describe
pub record IsOpened {P G : Type 0} (setup : Setup) (rows : List Row) (number : ℕ) (gate : G) (lane : Lane (Gated P G)) : Type 0 where
  pub setup_is : lane.channel.sequencer.0.setup ≡ setup
  pub number_is : lane.channel.sequencer.0.intake.opened.channel ≡ number
  pub half_is : lane.channel.sequencer.0.half ≡ first_half setup
  pub gate_is : lane.channel.gate ≡ gate
  pub unfinished : lane.ended ≡ Unfinished
  pub fresh : IsFresh setup (chip_in lane.channel.sequencer.1.1)
  pub faults : (chip_in lane.channel.sequencer.1.1).faults ≡ all_on (fault_on number) rows
  pub calls : failing_calls lane.channel.sequencer.1.1 ≡ all_on (failing_on number) rows
  pub statuses : failing_statuses lane.channel.sequencer.1.1 ≡ all_on (unready_on number) rows
  pub arrays : array_times lane.channel.sequencer.1.1 ≡ all_on (array_time_on number) rows

-- the channels from that number on, each with its gate
abbrev pub AreOpened : {P G : Type 0} → Setup → List Row → ℕ → List G → List (Lane (Gated P G)) → Type 0
AreOpened setup rows number [] [] = Unit {0}
AreOpened setup rows number (gate ∷ gates) (lane ∷ lanes) = IsOpened setup rows number gate lane × AreOpened setup rows (number + 1) gates lanes
AreOpened setup rows number [] (lane ∷ lanes) = ⊥
AreOpened setup rows number (gate ∷ gates) [] = ⊥

-- all channels that the rows set up on the device, to go that way, each with the gate of its number
abbrev pub AreOpenedOn : {P G : Type 0} → List Row → PageDevice → Way P → List G → List (Lane (Gated P G)) → Type 0
AreOpenedOn rows device way gates lanes = (setup : Setup) × SetsUp rows device way.limit way.choice setup × AreOpened setup rows 0 (take setup.channels gates) lanes

-- these are, after a run, the channels that the rows set up and that opened to go that way
abbrev pub AreBehind : {P G : Type 0} → List Row → PageDevice → Way P → List G → List (Lane (Gated P G)) → Type 0
AreBehind {P} {G} rows device way gates lanes =
    (opened : List (Lane (Gated P G))) × AreOpenedOn rows device way gates opened × (map lane_queues lanes ≡ map lane_queues opened)

-- ---- hosts
-- nothing was sent there
abbrev pub IsUnsent : Port → Type 0
IsUnsent p = p.host.sent ≡ []

-- each host sent nothing on the channel, and has places for the answers to its operations there
pub record AreNewPorts (rows : List Row) (channel : ℕ) (ports : List Port) : Type 0 where
  pub unsent : Each IsUnsent ports
  pub places : map port_places ports ≡ map (λ host. expected_on rows host channel) host_numbers

-- .. on each of so many channels
pub record AreNew (rows : List Row) (channels : ℕ) (stations : List Station) : Type 0 where
  pub numbers : map (λ (s : Station). s.number) stations ≡ host_numbers
  pub unsent : Each (Each IsUnsent) (ports_of stations)
  pub places : map (map port_places) (ports_of stations) ≡ map (expected_of rows channels) host_numbers

-- where the channel's thread is over, a planning opened as many nodes as it may
abbrev pub IsWithin : {P G : Type 0} → Lane (Gated P G) → Type 0
IsWithin lane = IsOverAt (lane_queues lane).nodes lane.ended
