-- A chip that keeps what its bus carries, and how it came to stand where it does.
use Rattle.std.specs.Prelude.{◌≡◌, ◌⊎◌, ℕ, true, List, [], ◌∷◌, ◌++◌, Option, Some, None}
use Rattle.std.specs.List.{flat_map}
use Rattle.onfi_addr.specs.declared.geometry.Geometry.{Geometry}
use Rattle.onfi_timing.specs.declared.kind.Kind.{Kind}
use Rattle.onfi_timing.specs.declared.timing.Timing.{Timing}
use Rattle.onfi_request.specs.declared.request.Request.{Request}
use Rattle.onfi_schedule.specs.declared.trace_line.TraceLine.{TraceLine}
use Rattle.onfi_schedule.specs.Trace.{line_text}
use Rattle.onfi_chip.specs.declared.closer.Closer.{Closer}
use Rattle.onfi_chip.specs.declared.fault.PostFault.{PostFault}
use Rattle.onfi_chip.specs.declared.post.Post.{Post}
use Rattle.onfi_chip.specs.Calls.{HasDone, IsLost, IsNextCommand, IsNextPost, command_of}
use Rattle.onfi_chip.specs.Chip.{Chip, IsAsOpened, found_ready, posted}
use Rattle.onfi_record.specs.declared.bus_log.BusLog.{BusLog}
use Rattle.onfi_record.specs.Carried.{IsCommandLine, IsPostLine}

-- what callers see of a recorder; `state` says what a chip is
abbrev pub RecorderView : Type 0 → Type 0
RecorderView C = BusLog × C

abbrev pub chip_in : {C : Type 0} → (C → Chip) → RecorderView C → Chip
chip_in state view = state view.1

-- the line is the command that the chip had next of its LUN's group, no sooner than the wait before it was over
pub record IsCommandRun (geometry : Geometry) (timing : Timing) (line : TraceLine) (old new : Chip) : Type 0 where
  pub start : ℕ
  pub row : ℕ
  pub kind : Kind
  pub closer : Closer
  pub bytes : List ℕ
  pub request : Request
  pub next : IsNextCommand old start row kind bytes request
  pub done : HasDone (command_of closer old request start) new
  pub told : IsCommandLine geometry timing start row kind closer line

-- the same of a post
pub record IsPostRun (geometry : Geometry) (timing : Timing) (lines : List TraceLine) (line : TraceLine) (old new : Chip) : Type 0 where
  pub start : ℕ
  pub row : ℕ
  pub post : Post
  pub left : List Post
  pub next : IsNextPost old start row post left
  pub done : HasDone (posted old post left start) new
  pub told : IsPostLine geometry timing lines start row line

-- what else comes of a chip: a LUN was found ready, or its bus carried nothing that it answered
abbrev pub GoesBy : Chip → Chip → Type 0
GoesBy old new = (new ≡ old) ⊎ ((lun now : ℕ) × (new ≡ found_ready old lun now)) ⊎ ((fault : PostFault) × IsLost fault old new)

-- the lines of these steps, the latest first, in the order of time: each step is a phase with its line, or none
abbrev pub lines_of : List (Option TraceLine) → List TraceLine
lines_of [] = []
lines_of (Some line ∷ before) = lines_of before ++ line ∷ []
lines_of (None ∷ before) = lines_of before

-- the chip came from its opening to where it stands by these steps
abbrev pub CameBy : Geometry → Timing → List (Option TraceLine) → Chip → Type 0
CameBy geometry timing [] chip = IsAsOpened geometry timing chip
CameBy geometry timing (Some line ∷ before) chip =
    (old : Chip) × CameBy geometry timing before old × (IsCommandRun geometry timing line old chip ⊎ IsPostRun geometry timing (lines_of before) line old chip)
CameBy geometry timing (None ∷ before) chip = (old : Chip) × CameBy geometry timing before old × GoesBy old chip

-- all phases that brought the chip from its opening to where it stands are these, in this order
pub record RanAll (geometry : Geometry) (timing : Timing) (lines : List TraceLine) (chip : Chip) : Type 0 where
  pub steps : List (Option TraceLine)
  pub came : CameBy geometry timing steps chip
  pub lines_are : lines ≡ lines_of steps

-- where nothing is left out of a log, it has all phases that the chip ran
abbrev pub IsRecorded : BusLog → Chip → Type 0
IsRecorded log chip = log.is_whole ≡ true → RanAll log.geometry log.timing log.lines.items chip

-- the lines of all phases that a chip ran since it opened, in their order, with their requests
pub record IsTraceText (text : List ℕ) : Type 0 where
  pub geometry : Geometry
  pub timing : Timing
  pub chip : Chip
  pub lines : List TraceLine
  pub ran : RanAll geometry timing lines chip
  pub is : text ≡ flat_map (line_text true) lines
