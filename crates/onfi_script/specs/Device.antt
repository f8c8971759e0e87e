-- The device of a script: how many LUNs it has, what may be grouped, and its phase lengths.
use Rattle.std.specs.Prelude.{◌≡◌, ℕ, ◌<◌, ◌≤◌, ◌||◌, Bool, true, false, IsTrue, List, [], length, map, Option, Some, None, is_none, option_and_then, IsSomeAnd, Result, Ok, Err, MatchResult, MatchBool}
use Rattle.std.specs.List.{flat_map, list_any}
use Rattle.onfi_param.specs.declared.fault.PageFault.TheVariants.{Short, NoCopy}
use Rattle.onfi_param.specs.Copies.{IsPageCopy, IsFirstCopy, copy_at}
use Rattle.onfi_addr.specs.declared.geometry.Geometry.{Geometry}
use Rattle.onfi_addr.specs.Faults.{IsFirstFault, NoFault}
use Rattle.onfi_timing.specs.declared.kind.Kind.{Kind}
use Rattle.onfi_timing.specs.declared.kind.Kind.TheVariants.{Read, Program, Erase}
use Rattle.onfi_timing.specs.declared.sheet.Sheet.{Sheet as SheetOf}
use Rattle.onfi_timing.specs.declared.spans.Spans.{Spans as Lengths}
use Rattle.onfi_timing.specs.declared.timing.Timing.{Timing}
use Rattle.onfi_timing.specs.SectorPosts.{HasPosts, IsSectorTiming, IsStrobedSectorTiming, counts}
use Rattle.onfi_timing.specs.declared.strobe_fault.StrobeFault.{StrobeFault}
use Rattle.onfi_timing.specs.declared.strobe_fault.StrobeFault.TheVariants as in_strobes
use Rattle.onfi_timing.specs.declared.strobes.Strobes.{Strobes}
use Rattle.onfi_timing.specs.Strobes.{IsStrobedFault}
use Rattle.onfi_timing.specs.Table.{IsTimingFault}
use Rattle.onfi_script.specs.declared.device.Device.{Device}
use Rattle.onfi_script.specs.declared.device.PageDevice.{PageDevice}
use Rattle.onfi_script.specs.declared.fault.ScriptFault.{ScriptFault}
use Rattle.onfi_script.specs.declared.fault.ScriptFault.TheVariants as fault
use Rattle.onfi_script.specs.declared.row.Row.{Row}
use Rattle.onfi_script.specs.declared.row.Row.TheVariants.{Shape, Spans, Page, SectorPost, Sector}
use Rattle.onfi_script.specs.declared.row.Row.TheVariants as row_of
use Rattle.onfi_script.specs.declared.row.Subject.TheVariants as on
use Rattle.onfi_script.specs.declared.row_name.Form.{Form}
use Rattle.onfi_script.specs.declared.row_name.Form.TheVariants.{First, Second}
use Rattle.onfi_script.specs.Layout.{IsLaidOut, IsSectored}
use Rattle.onfi_script.specs.RowParts.{ShapeRow, SpansRow, GeometryRow}
use Rattle.onfi_script.specs.Seen.{seen}
use Rattle.onfi_script.specs.Subject.{row_on}

abbrev pub as_shape : Row → Option ShapeRow
as_shape (Shape row) = Some row
as_shape _ = None

abbrev pub as_spans : Row → Option SpansRow
as_spans (Spans row) = Some row
as_spans _ = None

abbrev pub as_geometry : Row → Option GeometryRow
as_geometry (row_of.Geometry row) = Some row
as_geometry _ = None

abbrev pub shape_in : List Row → Option ShapeRow
shape_in rows = option_and_then as_shape (row_on on.Shape rows)

abbrev pub geometry_in : List Row → Option GeometryRow
geometry_in rows = option_and_then as_geometry (row_on on.Geometry rows)

abbrev pub spans_in : Kind → List Row → Option SpansRow
spans_in kind rows = option_and_then as_spans (row_on (on.Spans kind) rows)

-- a kind has no lengths
abbrev pub lacks_spans : List Row → Bool
lacks_spans rows = is_none (spans_in Read rows) || is_none (spans_in Program rows) || is_none (spans_in Erase rows)

pub record HasLengths (row : SpansRow) (spans : Lengths) : Type 0 where
  pub cmd : spans.cmd ≡ row.cmd
  pub gap : spans.gap ≡ row.gap
  pub array : spans.array ≡ row.array
  pub post : spans.post ≡ row.post

-- the post of so many sectors that a row gives; 0 where none does
abbrev pub sector_post_from : Option Row → ℕ
sector_post_from (Some (SectorPost row)) = row.post
sector_post_from _ = 0

abbrev pub sector_post_at : List Row → ℕ → ℕ
sector_post_at rows count = sector_post_from (row_on (on.SectorPost count) rows)

-- .. of one to seven
abbrev pub sector_posts_in : List Row → List ℕ
sector_posts_in rows = map (sector_post_at rows) counts

-- the lengths of each kind are those that its row gives, and so are the posts of sectors
pub record HasTiming (rows : List Row) (timing : Timing) : Type 0 where
  pub read : IsSomeAnd (spans_in Read rows) (λ row. HasLengths row timing.read)
  pub program : IsSomeAnd (spans_in Program rows) (λ row. HasLengths row timing.program)
  pub erase : IsSomeAnd (spans_in Erase rows) (λ row. HasLengths row timing.erase)
  pub sectors : HasPosts timing (sector_posts_in rows)

-- the rows `shape` and `spans` describe this device
pub record IsShaped (rows : List Row) (device : Device) : Type 0 where
  pub shape : shape_in rows ≡ Some (record { luns = device.luns; plane_bits = device.plane_bits; read = device.reads; write = device.writes })
  pub timing : HasTiming rows device.timing

-- the first form: without a row `shape`, or without lengths of a kind, a row is missing
abbrev pub TellsFirst : List Row → Result Device ScriptFault → Type 0
TellsFirst rows told = MatchResult told (IsShaped rows) (λ f. (f ≡ fault.Missing) × IsTrue (is_none (shape_in rows) || lacks_spans rows))

-- a row of bytes of the page
abbrev pub is_page : Row → Bool
is_page (Page bytes) = true
is_page _ = false

abbrev pub bytes_in : Row → List ℕ
bytes_in (Page bytes) = bytes
bytes_in _ = []

-- the bytes of all these rows, joined
abbrev pub page_bytes : List Row → List ℕ
page_bytes rows = flat_map bytes_in rows

-- the bytes of a sector; 0 where no row says
abbrev pub sector_from : Option Row → ℕ
sector_from (Some (Sector bytes)) = bytes
sector_from _ = 0

abbrev pub sector_in : List Row → ℕ
sector_in rows = sector_from (row_on on.Sector rows)

-- the phase lengths are those of page and sheet, by strobes where there are any, for sectors of so many bytes
abbrev pub IsTimed : List ℕ → Geometry → SheetOf → Option Strobes → ℕ → Timing → Type 0
IsTimed page g sheet None sector t = IsSectorTiming page g sheet sector t
IsTimed page g sheet (Some strobes) sector t = IsStrobedSectorTiming page g sheet strobes sector t

-- why there are none: what is wrong with the sheet, or with the strobes beside a sheet that is right
abbrev pub IsUntimed : SheetOf → Option Strobes → StrobeFault → Type 0
IsUntimed sheet None (in_strobes.Sheet f) = IsTimingFault sheet f
IsUntimed sheet None _ = ⊥
IsUntimed sheet (Some strobes) f = IsStrobedFault sheet strobes f

-- page, sheet and strobes describe chips of this geometry, with the sectors of so many bytes, and timing
pub record IsPageDevice (bytes : List ℕ) (sheet : SheetOf) (strobes : Option Strobes) (sector : ℕ) (g : Geometry) (t : Timing) : Type 0 where
  pub page : List ℕ
  pub copy : IsFirstCopy bytes page
  pub sound : NoFault page
  pub layout : IsSectored page sector g
  pub timing : IsTimed page g sheet strobes sector t

-- why they describe none: no page, no geometry, or no phase lengths
abbrev pub IsUndescribed : List ℕ → SheetOf → Option Strobes → ScriptFault → Type 0
IsUndescribed bytes sheet strobes (fault.Page Short) = length bytes < 256
IsUndescribed bytes sheet strobes (fault.Page NoCopy) = (256 ≤ length bytes) × ((number : ℕ) → ¬ IsPageCopy (copy_at bytes number))
IsUndescribed bytes sheet strobes (fault.Geometry f) = (page : List ℕ) × IsFirstCopy bytes page × IsFirstFault page f
IsUndescribed bytes sheet strobes (fault.Sheet f) = (page : List ℕ) × IsFirstCopy bytes page × NoFault page × IsUntimed sheet strobes (in_strobes.Sheet f)
IsUndescribed bytes sheet strobes (fault.Strobe (in_strobes.Sheet f)) = ⊥
IsUndescribed bytes sheet strobes (fault.Strobe f) = (page : List ℕ) × IsFirstCopy bytes page × NoFault page × IsUntimed sheet strobes f
IsUndescribed bytes sheet strobes _ = ⊥

abbrev pub TellsPageDevice : List ℕ → SheetOf → Option Strobes → ℕ → Result PageDevice ScriptFault → Type 0
TellsPageDevice bytes sheet strobes sector told = MatchResult told (λ d. IsPageDevice bytes sheet strobes sector d.geometry d.timing) (IsUndescribed bytes sheet strobes)

-- the chips that page, sheet and strobes of the rows describe, or why they describe none: without bytes of a page a row is missing
abbrev pub TellsPaged : List Row → Result PageDevice ScriptFault → Type 0
TellsPaged rows told =
    MatchBool (list_any is_page rows) (TellsPageDevice (page_bytes rows) (seen rows).sheet (seen rows).strobes (sector_in rows) told) (told ≡ Err fault.Missing)

-- the chips that the rows `shape`, `geometry` and `spans` describe
pub record HasChips (rows : List Row) (chips : PageDevice) : Type 0 where
  pub shape : ShapeRow
  pub geometry : GeometryRow
  pub has_shape : shape_in rows ≡ Some shape
  pub has_geometry : geometry_in rows ≡ Some geometry
  pub layout : IsLaidOut shape geometry chips.geometry
  pub timing : HasTiming rows chips.timing

-- .. or a row is missing
abbrev pub TellsSpanned : List Row → Result PageDevice ScriptFault → Type 0
TellsSpanned rows told = MatchResult told (HasChips rows) (λ f. (f ≡ fault.Missing) × IsTrue (is_none (shape_in rows) || is_none (geometry_in rows) || lacks_spans rows))

-- of no form, bytes of a page are missing
abbrev pub TellsChipsInForm : List Row → Option Form → Result PageDevice ScriptFault → Type 0
TellsChipsInForm rows None told = TellsPaged rows told
TellsChipsInForm rows (Some First) told = TellsSpanned rows told
TellsChipsInForm rows (Some Second) told = TellsPaged rows told

-- the chips that the rows of a run describe, or why they describe none
abbrev pub TellsChips : List Row → Result PageDevice ScriptFault → Type 0
TellsChips rows told = TellsChipsInForm rows (seen rows).form told

-- what a problem needs of such chips
pub record IsDeviceOf (chips : PageDevice) (device : Device) : Type 0 where
  pub timing : device.timing ≡ chips.timing
  pub luns : device.luns ≡ chips.geometry.lun_count
  pub plane_bits : device.plane_bits ≡ chips.geometry.plane_address_bits
  pub reads : device.reads ≡ chips.geometry.multi_plane_reads
  pub writes : device.writes ≡ chips.geometry.multi_plane_writes

-- the second form: what a problem needs of the chips
abbrev pub TellsSecond : List Row → Result Device ScriptFault → Type 0
TellsSecond rows told = MatchResult told (λ device. (chips : PageDevice) × TellsPaged rows (Ok chips) × IsDeviceOf chips device) (λ f. TellsPaged rows (Err f))

-- of no form: a row is missing
abbrev pub TellsInForm : List Row → Option Form → Result Device ScriptFault → Type 0
TellsInForm rows None told = told ≡ Err fault.Missing
TellsInForm rows (Some First) told = TellsFirst rows told
TellsInForm rows (Some Second) told = TellsSecond rows told

-- the device that the rows describe, or why they describe none
abbrev pub TellsDevice : List Row → Result Device ScriptFault → Type 0
TellsDevice rows told = TellsInForm rows (seen rows).form told
