-- What the typed phases of a LUN say of the chip, and what their moves lead to.
use Rattle.std.specs.Prelude.{◌≡◌, ◌≢◌, ℕ, ◌+◌, ◌≤◌, List, ◌∷◌, length, true, Some, slice_get}
use Rattle.onfi_addr.specs.declared.geometry.Geometry.{Geometry}
use Rattle.onfi_addr.specs.Rows.{IsInRange}
use Rattle.onfi_request.specs.declared.request.Request.{Request}
use Rattle.onfi_request.specs.Parts.{has_part}
use Rattle.onfi_chip.specs.declared.closer.Closer.{Closer}
use Rattle.onfi_chip.specs.declared.closer.Closer.TheVariants as closer
use Rattle.onfi_chip.specs.declared.fetch.Fetch.{Fetch}
use Rattle.onfi_chip.specs.declared.post.Post.{Post}
use Rattle.onfi_chip.specs.Chip.{Chip}
use Rattle.onfi_chip.specs.Chip.Lun.{Idle as DoesNothing, Commanding as TakesCommands, Posting as HasPosts}
use Rattle.onfi_lun.specs.declared.states.Idle.{Idle}
use Rattle.onfi_lun.specs.declared.states.Queuing.{Queuing}
use Rattle.onfi_lun.specs.declared.states.Working.{Working}
use Rattle.onfi_lun.specs.declared.states.Posting.{Posting}
use Rattle.onfi_lun.specs.declared.lun.Lun.{Lun}
use Rattle.onfi_lun.specs.declared.lun.Commanded.{Commanded}
use Rattle.onfi_lun.specs.declared.lun.Commanded.TheVariants as commanded
use Rattle.onfi_lun.specs.declared.lun.Posted.{Posted}
use Rattle.onfi_lun.specs.declared.lun.Posted.TheVariants as posted
use Rattle.onfi_lun.specs.declared.target.Target.{Target}

-- the chip is of that geometry and timing
pub record IsOf (target : Target) (chip : Chip) : Type 0 where
  pub geometry : chip.geometry ≡ target.geometry
  pub timing : chip.timing ≡ target.timing

-- the chip's LUN of that number does nothing
abbrev pub IsIdle : Chip → Lun Idle → Type 0
IsIdle chip lun = slice_get chip.luns lun.number ≡ Some DoesNothing

-- the chip's LUN of that number took these commands, and may take the next when the phase says so
pub record IsQueuing (chip : Chip) (lun : Lun Queuing) (requests : List Request) : Type 0 where
  pub there : slice_get chip.luns lun.number ≡ Some (TakesCommands requests lun.state.ready)
  pub count : lun.state.commands ≡ length requests

-- it took all commands of its group, and these posts may be fetched when the phase says so
pub record IsWorking (chip : Chip) (lun : Lun Working) (posts : List Post) : Type 0 where
  pub there : slice_get chip.luns lun.number ≡ Some (HasPosts posts lun.state.ready)
  pub count : lun.state.members ≡ length posts

-- these posts of its group are left
pub record IsPosting (chip : Chip) (lun : Lun Posting) (posts : List Post) : Type 0 where
  pub there : slice_get chip.luns lun.number ≡ Some (HasPosts posts lun.state.ready)
  pub count : lun.state.left ≡ length posts

-- the closer decides: more commands follow, or the array works
abbrev pub IsCommanded : Closer → Chip → ℕ → Commanded → Type 0
IsCommanded closer.More chip number (commanded.More lun) = (lun.number ≡ number) × ((requests : List Request) × IsQueuing chip lun requests)
IsCommanded closer.More chip number (commanded.Last lun) = ⊥
IsCommanded closer.Last chip number (commanded.More lun) = ⊥
IsCommanded closer.Last chip number (commanded.Last lun) = (lun.number ≡ number) × ((posts : List Post) × IsWorking chip lun posts)

-- the posts that are left decide
abbrev pub IsPosted : List Post → Chip → ℕ → Posted → Type 0
IsPosted left chip number (posted.More lun) = (lun.number ≡ number) × IsPosting chip lun left
IsPosted left chip number (posted.Last lun) = (lun.number ≡ number) × IsIdle chip lun

-- the post of the member comes next on the LUN, whose wait is over
pub record IsDue (geometry : Geometry) (chip : Chip) (lun : Lun Posting) (now : ℕ) (fetch : Fetch) (post : Post) (left : List Post) : Type 0 where
  pub posting : IsPosting chip lun (post ∷ left)
  pub over : lun.state.ready ≤ now
  pub kind : post.kind ≡ fetch.kind
  pub place : post.place ≡ fetch.place
  pub lun_is : post.place.lun ≡ lun.number
  pub in_range : IsInRange geometry post.place
  pub part : has_part geometry post.kind ≡ true

-- every LUN but this one is as it was
abbrev pub OthersStay : ℕ → Chip → Chip → Type 0
OthersStay number old new = (other : ℕ) → other ≢ number → slice_get new.luns other ≡ slice_get old.luns other

-- a LUN that took that many commands, the last with that closer, and is held until that moment
abbrev pub IsMade : Closer → ℕ → ℕ → ℕ → Commanded → Type 0
IsMade closer.More number commands ready (commanded.More lun) = (lun.number ≡ number) × (lun.state.commands ≡ commands) × (lun.state.ready ≡ ready)
IsMade closer.More number commands ready (commanded.Last lun) = ⊥
IsMade closer.Last number commands ready (commanded.More lun) = ⊥
IsMade closer.Last number commands ready (commanded.Last lun) = (lun.number ≡ number) × (lun.state.members ≡ commands) × (lun.state.ready ≡ ready)

-- a LUN after a post, of which that many were left before it
abbrev pub IsBehind : ℕ → ℕ → ℕ → Posted → Type 0
IsBehind number left ready (posted.More lun) = (lun.number ≡ number) × (lun.state.left + 1 ≡ left) × (lun.state.ready ≡ ready)
IsBehind number left ready (posted.Last lun) = (lun.number ≡ number) × (left ≡ 1)
