-- What a chip is, and what its calls do to it.
use Rattle.std.specs.Prelude.{◌≡◌, ℕ, ◌+◌, List, [], ◌∷◌, ◌++◌, min, replicate, Option, Some, None, slice_get, slice_set}
use Rattle.onfi_addr.specs.declared.geometry.Geometry.{Geometry}
use Rattle.onfi_timing.specs.declared.spans.Spans.{Spans}
use Rattle.onfi_timing.specs.declared.timing.Timing.{Timing}
use Rattle.onfi_timing.specs.Kinds.{spans_of}
use Rattle.onfi_request.specs.declared.fault.Fault.{Fault}
use Rattle.onfi_request.specs.declared.request.Request.{Request}
use Rattle.onfi_die.specs.Shapes.{Device, device_of}
use Rattle.onfi_die.specs.Contents.{answer_of}
use Rattle.onfi_die.specs.Blocks.{Blocks, fresh_blocks, block_of, changed, happen}
use Rattle.onfi_chip.specs.declared.post.Post.{Post}

-- a LUN: idle; in the commands of a group, with those that it took; or in its posts, with those that are left. The next command or post may start at `ready`
pub data Lun : Type 0 where
  Idle : Lun
  Commanding : List Request → ℕ → Lun
  Posting : List Post → ℕ → Lun

-- how often a call's bus failed, and how often a status said that its LUN isn't ready
pub record Failures : Type 0 where
  pub bus : ℕ
  pub unready : ℕ

abbrev pub no_failures : Failures
no_failures = record { bus = 0; unready = 0 }

pub record Chip : Type 0 where
  pub geometry : Geometry
  pub timing : Timing
  pub faults : List Fault
  pub blocks : Blocks
  pub luns : List Lun
  pub failures : Failures

abbrev pub device_in : Chip → Device
device_in chip = device_of chip.geometry chip.faults

-- a chip as it opens: all blocks erased, no program or erase yet, all LUNs idle
abbrev pub opened : Geometry → Timing → List Fault → Failures → Chip
opened geometry timing faults failures = record {
  geometry = geometry;
  timing = timing;
  faults = faults;
  blocks = fresh_blocks (device_of geometry faults);
  luns = replicate geometry.lun_count Idle;
  failures = failures;
}

-- the chip has that geometry and timing, and is as it opens
abbrev pub IsAsOpened : Geometry → Timing → Chip → Type 0
IsAsOpened geometry timing chip = chip ≡ opened geometry timing chip.faults chip.failures

-- the commands that a LUN took so far
abbrev pub taken : Option Lun → List Request
taken (Some (Commanding requests ready)) = requests
taken (Some (Posting posts ready)) = []
taken (Some Idle) = []
taken None = []

-- the requests, one after another, each with its answer
abbrev pub posts_of : Device → List Request → Blocks → List Post
posts_of device [] blocks = []
posts_of device (r ∷ rs) blocks =
    record { kind = r.kind; place = r.place; answer = answer_of device r (block_of r blocks) } ∷ posts_of device rs (changed device r blocks)

abbrev pub spans_for : Chip → Request → Spans
spans_for chip r = spans_of chip.timing r.kind

-- the group of the LUN with one more request
abbrev pub group_with : Chip → Request → List Request
group_with chip r = taken (slice_get chip.luns r.place.lun) ++ r ∷ []

-- a command that more will follow: nothing happens yet
abbrev pub queued : Chip → Request → ℕ → Chip
queued chip r ready = record chip { luns = slice_set chip.luns r.place.lun (Commanding (group_with chip r) ready) }

-- the last command: the group's requests happen
abbrev pub happened : Chip → Request → ℕ → Chip
happened chip r ready = record chip {
  blocks = happen (device_in chip) (group_with chip r) chip.blocks;
  luns = slice_set chip.luns r.place.lun (Posting (posts_of (device_in chip) (group_with chip r) chip.blocks) ready);
}

-- a command at `now` that more will follow
abbrev pub commanded : Chip → Request → ℕ → Chip
commanded chip r now = queued chip r (now + (spans_for chip r).cmd + (spans_for chip r).gap)

-- the last command, at `now`
abbrev pub launched : Chip → Request → ℕ → Chip
launched chip r now = happened chip r (now + (spans_for chip r).cmd + (spans_for chip r).array)

-- the LUN after a post
abbrev pub after_post : List Post → ℕ → Lun
after_post [] ready = Idle
after_post (post ∷ more) ready = Posting (post ∷ more) ready

-- a LUN whose array is done by then: its next post may start from that moment on
abbrev pub ready_by : ℕ → Lun → Lun
ready_by now Idle = Idle
ready_by now (Commanding requests ready) = Commanding requests ready
ready_by now (Posting posts ready) = Posting posts (min ready now)

abbrev pub luns_ready_by : ℕ → ℕ → Option Lun → List Lun → List Lun
luns_ready_by now lun None luns = luns
luns_ready_by now lun (Some x) luns = slice_set luns lun (ready_by now x)

-- the LUN was found ready at `now`
abbrev pub found_ready : Chip → ℕ → ℕ → Chip
found_ready chip lun now = record chip { luns = luns_ready_by now lun (slice_get chip.luns lun) chip.luns }

-- a post, at `now`, of which these are left after it
abbrev pub posted : Chip → Post → List Post → ℕ → Chip
posted chip post left now = record chip { luns = slice_set chip.luns post.place.lun (after_post left (now + (spans_of chip.timing post.kind).post)) }
