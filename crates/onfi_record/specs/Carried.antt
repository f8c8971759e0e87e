-- What the bus of a channel carried.
use Rattle.std.specs.Prelude.{◌≡◌, ℕ, ◌+◌, ◌-◌, ◌^◌, min, Bool, true, false, List, [], ◌∷◌, ◌++◌, Option, Some, None, slice_get}
use Rattle.onfi_addr.specs.declared.geometry.Geometry.{Geometry}
use Rattle.onfi_addr.specs.declared.place.Place.{Place}
use Rattle.onfi_addr.specs.Rows.{row_of}
use Rattle.onfi_timing.specs.declared.kind.Kind.{Kind}
use Rattle.onfi_timing.specs.declared.timing.Timing.{Timing}
use Rattle.onfi_timing.specs.Kinds.{spans_of}
use Rattle.onfi_request.specs.declared.want.Want.{Want}
use Rattle.onfi_schedule.specs.declared.trace_line.LinePart.TheVariants.{Command, Post}
use Rattle.onfi_schedule.specs.declared.trace_line.TraceLine.{TraceLine}
use Rattle.onfi_chip.specs.declared.closer.Closer.{Closer}
use Rattle.onfi_chip.specs.declared.closer.Closer.TheVariants.{More, Last}
use Rattle.onfi_record.specs.declared.bus_log.BusLog.{BusLog}

-- ---- a line
-- when a phase of that length ends that starts then
abbrev pub end_after : ℕ → ℕ → ℕ
end_after start length = min (2 ^ 64 - 1) (start + length)

abbrev pub is_last : Closer → Bool
is_last Last = true
is_last More = false

abbrev pub place_of : Want → Place
place_of w = record { lun = w.lun; block = w.block; page = w.page }

-- the line is the command of a request on that page
pub record IsCommandAt (place : Place) (line : TraceLine) : Type 0 where
  pub part : line.part ≡ Command
  pub there : place_of line.want ≡ place

-- the line is the command of that request on that page
abbrev pub IsCommandOf : Option TraceLine → Place → Want → Type 0
IsCommandOf None place w = ⊥
IsCommandOf (Some line) place w = IsCommandAt place line × (line.want ≡ w)

-- one of the lines is
abbrev pub IsCommanded : Place → List TraceLine → Want → Type 0
IsCommanded place lines w = (n : ℕ) × IsCommandOf (slice_get lines n) place w

-- the line is the command of a request of that kind on that row, as it is called
pub record IsCommandLine (geometry : Geometry) (timing : Timing) (start row : ℕ) (kind : Kind) (closer : Closer) (line : TraceLine) : Type 0 where
  pub starts : line.start ≡ start
  pub ends : line.end ≡ end_after start (spans_of timing kind).cmd
  pub row_is : row_of geometry (place_of line.want) ≡ row
  pub lun_is : line.lun ≡ line.want.lun
  pub kind_is : line.want.kind ≡ kind
  pub part : line.part ≡ Command
  pub closes : line.last ≡ is_last closer

-- the line is the post, on that row, of a request that had its command in these lines
pub record IsPostLine (geometry : Geometry) (timing : Timing) (lines : List TraceLine) (start row : ℕ) (line : TraceLine) : Type 0 where
  pub starts : line.start ≡ start
  pub ends : line.end ≡ end_after start (spans_of timing line.want.kind).post
  pub row_is : row_of geometry (place_of line.want) ≡ row
  pub lun_is : line.lun ≡ line.want.lun
  pub part : line.part ≡ Post
  pub commanded : IsCommanded (place_of line.want) lines line.want

-- ---- a log
-- nothing was carried
pub record IsNewLog (geometry : Geometry) (timing : Timing) (is_kept : Bool) (log : BusLog) : Type 0 where
  pub geometry_is : log.geometry ≡ geometry
  pub timing_is : log.timing ≡ timing
  pub none : log.lines.items ≡ []
  pub kept : log.is_whole ≡ is_kept

-- it is of the same device
pub record IsSameDevice (old new : BusLog) : Type 0 where
  pub geometry_is : new.geometry ≡ old.geometry
  pub timing_is : new.timing ≡ old.timing

-- one line more, where none was left out before
pub record SaysMore (line : TraceLine) (old new : BusLog) : Type 0 where
  pub before : old.is_whole ≡ true
  pub more : new.lines.items ≡ old.lines.items ++ line ∷ []
