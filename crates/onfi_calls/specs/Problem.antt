-- What plain structs say of a channel.
use Rattle.std.specs.Prelude.{◌≡◌, ◌==◌, ◌/◌, ◌%◌, ◌-◌, ℕ, nat_lt, if◌then◌else◌, Bool, true, false, List, take, map, slice_index_or, ◌||◌}
use Rattle.onfi_addr.specs.Rows.{plane_at}
use Rattle.std.specs.List.{list_any}
use Rattle.onfi_timing.specs.declared.kind.Kind.{Kind}
use Rattle.onfi_timing.specs.declared.kind.Kind.TheVariants.{Read, Program, Erase, ReadSectors}
use Rattle.onfi_timing.specs.declared.spans.Spans.{Spans}
use Rattle.onfi_timing.specs.declared.timing.Timing.{Timing}
use Rattle.onfi_timing.specs.SectorPosts.{HasPosts}
use Rattle.onfi_request.specs.declared.want.Want.{Want}
use Rattle.onfi_group.specs.declared.rules.Rules.{Rules}
use Rattle.onfi_problem.specs.declared.lun_state.LunState.{LunState}
use Rattle.onfi_problem.specs.declared.lun_state.LunState.TheVariants.{Free, Running}
use Rattle.onfi_problem.specs.Problem.{Problem}
use Rattle.onfi_calls.specs.declared.channel.PlainSpans.{PlainSpans}
use Rattle.onfi_calls.specs.declared.channel.PlainTiming.{PlainTiming}
use Rattle.onfi_calls.specs.declared.channel.PlainRules.{PlainRules}
use Rattle.onfi_calls.specs.declared.channel.PlainChannel.{PlainChannel}
use Rattle.onfi_calls.specs.declared.channel.PlainLengths.{PlainLengths}
use Rattle.onfi_calls.specs.declared.channel.PlainWant.{PlainWant}
use Rattle.onfi_calls.specs.declared.channel.PlainLun.{PlainLun}

-- the lengths of a kind
pub record AreSpans (said : PlainSpans) (spans : Spans) : Type 0 where
  pub cmd : spans.cmd ≡ said.cmd
  pub gap : spans.gap ≡ said.gap
  pub array : spans.array ≡ said.array
  pub post : spans.post ≡ said.post

-- the lengths of each kind
pub record AreKinds (said : PlainTiming) (timing : Timing) : Type 0 where
  pub read : AreSpans said.read timing.read
  pub program : AreSpans said.program timing.program
  pub erase : AreSpans said.erase timing.erase

-- .. and of reads of some sectors
pub record IsTiming (channel : PlainChannel) (timing : Timing) : Type 0 where
  pub kinds : AreKinds channel.timing timing
  pub sectors : HasPosts timing channel.lengths.sectors

pub record AreRules (said : PlainRules) (rules : Rules) : Type 0 where
  pub read : rules.read ≡ said.read
  pub write : rules.write ≡ said.write
  pub strict : rules.strict ≡ said.strict
  pub plane_bits : rules.plane_bits ≡ said.plane_bits

-- the number of a kind has that of its operation in its five low bits, and above them how many sectors are put out, 0 where that is
-- all of a page, or nothing
abbrev pub operation_in : ℕ → ℕ
operation_in kind = kind % 32

abbrev pub sectors_in : ℕ → ℕ
sectors_in kind = kind / 32 % 8

abbrev pub read_of : ℕ → Kind
read_of count = if count == 0 then Read else ReadSectors 0 count

abbrev pub kind_of : ℕ → Kind
kind_of kind = if operation_in kind == 0 then read_of (sectors_in kind) else (if operation_in kind == 1 then Program else Erase)

-- a request, on the plane that the low bits of its block name
abbrev pub want_of : ℕ → PlainWant → Want
want_of plane_bits w = record { id = w.id; kind = kind_of w.kind; lun = w.lun; plane = plane_at plane_bits w.block; block = w.block; page = w.page }

abbrev pub wants_of : ℕ → List PlainWant → List Want
wants_of plane_bits wants = map (want_of plane_bits) wants

-- the LUNs of a channel
abbrev pub luns_of : PlainChannel → List PlainLun
luns_of channel = take channel.lun_count channel.lun

-- the wants of a running group
abbrev pub members_of : PlainLun → List PlainWant
members_of lun = take lun.members lun.member

abbrev pub state_of : ℕ → PlainLun → LunState
state_of plane_bits lun = if lun.members == 0 then Free lun.since else Running (wants_of plane_bits (members_of lun)) lun.next lun.since

abbrev pub states_of : ℕ → List PlainLun → List LunState
states_of plane_bits luns = map (state_of plane_bits) luns

-- the problem that a caller says
pub record IsSaid (channel : PlainChannel) (wants : List PlainWant) (p : Problem) : Type 0 where
  pub timing : IsTiming channel p.timing
  pub rules : AreRules channel.rules p.rules
  pub bus_free : p.bus_free ≡ channel.bus_free
  pub states : p.luns ≡ states_of channel.rules.plane_bits (luns_of channel)
  pub requests : p.wants ≡ wants_of channel.rules.plane_bits wants

-- the number names no kind
abbrev pub has_bad_kind : PlainWant → Bool
has_bad_kind w = nat_lt 2 (operation_in w.kind)

-- more members than there are places
abbrev pub has_bad_count : PlainLun → Bool
has_bad_count lun = nat_lt 4 lun.members

-- a member's number names no kind
abbrev pub has_bad_member : PlainLun → Bool
has_bad_member lun = list_any has_bad_kind (members_of lun)

abbrev pub have_bad_kind : PlainChannel → List PlainWant → Bool
have_bad_kind channel wants = list_any has_bad_member (luns_of channel) || list_any has_bad_kind wants

-- that many sectors are put out, by a read, without a post of as many; or by what is no read
abbrev pub lacks_post : List ℕ → ℕ → ℕ → Bool
lacks_post posts operation count = if count == 0 then false else (if operation == 0 then slice_index_or posts (count - 1) 0 == 0 else true)

abbrev pub lacks_length : PlainLengths → PlainWant → Bool
lacks_length lengths w = lacks_post lengths.sectors (operation_in w.kind) (sectors_in w.kind)

-- .. by a member of what runs
abbrev pub has_lacking : PlainLengths → PlainLun → Bool
has_lacking lengths lun = list_any (lacks_length lengths) (members_of lun)

-- .. by any of what is given
abbrev pub have_lacking : PlainChannel → List PlainWant → Bool
have_lacking channel wants = list_any (has_lacking channel.lengths) (luns_of channel) || list_any (lacks_length channel.lengths) wants
