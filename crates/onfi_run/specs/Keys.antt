-- Which ends of queues belong together.
use Rattle.std.specs.Prelude.{◌≡◌, ◌≢◌, ℕ, Bool, true, false, List, length, map, Option, Some, slice_get}
use Rattle.atomic_table.specs.Seated.{TableId}
use Rattle.onfi_request.specs.declared.reply.Reply.{Reply}
use Rattle.onfi_request.specs.declared.request.Item.{Item}
use Rattle.onfi_request.specs.declared.request.Request.{Request}
use Rattle.onfi_queue.specs.declared.fault.SubmitFault.{SubmitFault}
use Rattle.onfi_queue.specs.declared.fault.SubmitFault.TheVariants.{Full}
use Rattle.onfi_queue.specs.Ends.{HostView, AreHostsOf, IsWhyNot, after_sending}
use Rattle.onfi_reply.specs.Ends.{InboxView, after_collecting}
use Rattle.onfi_run.specs.declared.port.Port.{Port}
use Rattle.onfi_run.specs.declared.station.Station.{Station}
use Rattle.onfi_run.specs.Answers.{changed, submitted, with_reply}
use Rattle.onfi_run.specs.Arriving.{Expected}
use Rattle.onfi_run.specs.ByHost.{host_numbers}
use Rattle.onfi_run.specs.Report.{places}
use Rattle.onfi_run.specs.Resting.{IsFull}

-- the queues of a channel, the submission queue and the completion queue of each host, and how many nodes a planning of it may open, if any is made
pub record ChannelQueues : Type 0 where
  pub requests : TableId
  pub replies : List TableId
  pub nodes : Option ℕ

-- a host's ends on a channel: the submission queue, the host's number there, its completion queue, and how many hosts the channel has
pub record PortEnds : Type 0 where
  pub queue : TableId
  pub number : ℕ
  pub inbox : Option TableId
  pub hosts : ℕ

abbrev pub port_ends : Port → PortEnds
port_ends p = record { queue = p.host.queue; number = p.host.number; inbox = Some p.inbox.queue; hosts = 4 }

-- the operations of which something is kept there
abbrev pub port_places : Port → List Expected
port_places p = places p.answers

-- .. both, which a port never changes
abbrev pub port_key : Port → PortEnds × List Expected
port_key p = (port_ends p, port_places p)

-- .. with what was sent there, and whether an operation was left out
abbrev pub port_state : Port → (PortEnds × List Expected) × List Item × Bool
port_state p = (port_key p, p.host.sent, p.left_out)

-- the ends of that host on a channel
abbrev pub end_of : ℕ → ChannelQueues → PortEnds
end_of host q = record { queue = q.requests; number = host; inbox = slice_get q.replies host; hosts = length q.replies }

-- the next reply is with the answers, collected at that moment
pub record TookReply (now : ℕ) (old new : Port) : Type 0 where
  pub reply : Reply
  pub inbox : new.inbox ≡ after_collecting old.inbox reply
  pub answers : new.answers ≡ with_reply now old.answers reply

-- a reply was collected, or none was to be had
abbrev pub Collects : ℕ → Bool → Port → Port → Type 0
Collects now true old new = TookReply now old new
Collects now false old new = new ≡ old

-- an operation was left out
abbrev pub LeavesOut : Port → Port → Type 0
LeavesOut old new = new ≡ record old { left_out = true }

-- the queue never takes the request: it isn't full that refuses it
abbrev pub IsNeverTaken : HostView → Request → Type 0
IsNeverTaken host request = (why : SubmitFault) × (why ≢ Full) × IsWhyNot host request why

-- a request was submitted at that moment, or left out: since one was before, since the queue never takes it, or since it was full and the channel has ended
pub data Submits (now : ℕ) (request : Request) (has_ended : Bool) (old new : Port) : Type 0 where
  is_sent : old.left_out ≡ false → new ≡ record old { host = after_sending old.host request; answers = changed (submitted now) old.answers (length old.host.sent) }
      → Submits now request has_ended old new
  is_behind : old.left_out ≡ true → new ≡ old → Submits now request has_ended old new
  is_refused : IsNeverTaken old.host request → LeavesOut old new → Submits now request has_ended old new
  is_too_late : has_ended ≡ true → IsFull old → LeavesOut old new → Submits now request has_ended old new

-- the same ends, with places for the same answers, in the same order
abbrev pub HasSamePorts : List Port → List Port → Type 0
HasSamePorts old new = map port_key new ≡ map port_key old

-- .. and no more was sent or left out
abbrev pub SendsNothing : List Port → List Port → Type 0
SendsNothing old new = map port_state new ≡ map port_state old

-- the ports of each host
abbrev pub ports_of : List Station → List (List Port)
ports_of stations = map (λ (s : Station). s.ports.items) stations

-- each host has the same ends and places
abbrev pub HaveSamePorts : List Station → List Station → Type 0
HaveSamePorts old new = map (map port_key) (ports_of new) ≡ map (map port_key) (ports_of old)

-- the ports are the hosts' ends on that channel
abbrev pub AreEndsOf : ChannelQueues → List Port → Type 0
AreEndsOf q ports = map port_ends ports ≡ map (λ host. end_of host q) host_numbers

-- the ends of that host on these channels
abbrev pub ends_on : List ChannelQueues → ℕ → List PortEnds
ends_on qs host = map (end_of host) qs

-- each host's ports are its ends on these channels
abbrev pub AreLinked : List ChannelQueues → List Station → Type 0
AreLinked qs stations = map (map port_ends) (ports_of stations) ≡ map (ends_on qs) host_numbers

abbrev pub queues_of : List InboxView → List TableId
queues_of inboxes = map (λ (i : InboxView). i.queue) inboxes

-- hosts and inboxes are the other ends of the channel's queues, in host order
abbrev pub AreEnds : ChannelQueues → List HostView → List InboxView → Type 0
AreEnds q hosts inboxes = AreHostsOf q.requests 0 hosts × (queues_of inboxes ≡ q.replies)
