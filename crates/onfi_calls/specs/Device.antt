-- What a parameter page, a timing sheet and strobes, if there are some, say of a device.
use Rattle.std.specs.Prelude.{◌≡◌, ◌≤◌, ◌<◌, ℕ, List, [], ◌∷◌, Ok, Err, length, false}
use Rattle.onfi_param.specs.Copies.{IsFirstCopy, IsPageCopy, copy_at}
use Rattle.onfi_addr.specs.Faults.{IsFirstFault, NoFault}
use Rattle.onfi_addr.specs.Layout.{IsGeometryOf}
use Rattle.onfi_addr.specs.declared.geometry.Geometry.{Geometry}
use Rattle.onfi_addr.specs.declared.fault.GeometryFault.{GeometryFault}
use Rattle.onfi_addr.specs.declared.fault.GeometryFault.TheVariants as geometry
use Rattle.onfi_timing.specs.Sheet.{IsSheetOf}
use Rattle.onfi_timing.specs.Table.{IsTimingFault}
use Rattle.onfi_timing.specs.SectorPosts.{HasPosts, IsSectorTiming, IsStrobedSectorTiming}
use Rattle.onfi_timing.specs.StrobeRows.{AreStrobesOf}
use Rattle.onfi_timing.specs.Strobes.{IsStrobedFault}
use Rattle.onfi_timing.specs.declared.strobe.Strobe.{Strobe}
use Rattle.onfi_timing.specs.declared.strobe.Strobe.TheVariants.{Trpre, Trc as StrobeTrc, Trpst, Trpsth, Twpre, Tdsc, Twpst, Twpsth}
use Rattle.onfi_timing.specs.declared.strobe_fault.StrobeFault.{StrobeFault}
use Rattle.onfi_timing.specs.declared.strobe_fault.StrobeFault.TheVariants as strobe_fault
use Rattle.onfi_timing.specs.declared.strobes.Strobes.{Strobes}
use Rattle.onfi_timing.specs.declared.fault.SheetFault.{SheetFault}
use Rattle.onfi_timing.specs.declared.fault.SheetFault.TheVariants as sheet_fault
use Rattle.onfi_timing.specs.declared.parameter.Parameter.{Parameter}
use Rattle.onfi_timing.specs.declared.parameter.Parameter.TheVariants.{Twc, Trc, Tadl, Twhr, Trhw, Twb, Tplrbsy, Tplpbsy, Tplebsy}
use Rattle.onfi_timing.specs.declared.sheet.Sheet.{Sheet}
use Rattle.onfi_timing.specs.declared.spans.Spans.{Spans}
use Rattle.onfi_timing.specs.declared.timing.Timing.{Timing}
use Rattle.onfi_calls.specs.declared.channel.PlainLengths.{PlainLengths}
use Rattle.onfi_calls.specs.declared.channel.PlainSpans.{PlainSpans}
use Rattle.onfi_calls.specs.declared.channel.PlainTiming.{PlainTiming}
use Rattle.onfi_calls.specs.declared.device.PlainGeometry.{PlainGeometry}
use Rattle.onfi_calls.specs.declared.device.PlainDevice.{PlainDevice}
use Rattle.onfi_calls.specs.declared.status.Status.{Status}
use Rattle.onfi_calls.specs.declared.status.Status.TheVariants as status
use Rattle.onfi_calls.specs.declared.refusal.Refusal.{Refusal}
use Rattle.onfi_calls.specs.Refusal.{whole}
use Rattle.onfi_calls.specs.Status.{number_of}

abbrev pub written_spans : Spans → PlainSpans
written_spans s = record { cmd = s.cmd; gap = s.gap; array = s.array; post = s.post }

abbrev pub written_timing : Timing → PlainTiming
written_timing t = record { read = written_spans t.read; program = written_spans t.program; erase = written_spans t.erase }

abbrev pub written_geometry : Geometry → PlainGeometry
written_geometry g = record {
  blocks_per_lun = g.blocks_per_lun;
  page_bits = g.page_bits;
  block_bits = g.block_bits;
  lun_bits = g.lun_bits;
  pages_per_block = g.pages_per_block;
  data_bytes = g.data_bytes;
  spare_bytes = g.spare_bytes;
  lun_count = g.lun_count;
  plane_address_bits = g.plane_address_bits;
  column_address_cycles = g.column_address_cycles;
  row_address_cycles = g.row_address_cycles;
  any_page_order = g.any_page_order;
  multi_plane_writes = g.multi_plane_writes;
  multi_plane_reads = g.multi_plane_reads;
}

-- the plain struct of a device; its groups aren't strict, whatever byte 114 of the page (multi-plane attributes) says of block addresses
abbrev pub written_device : Geometry → Timing → PlainLengths → PlainDevice
written_device g t lengths = record {
  timing = written_timing t;
  lengths = lengths;
  rules = record { read = g.multi_plane_reads; write = g.multi_plane_writes; strict = false; plane_bits = g.plane_address_bits };
  geometry = written_geometry g;
}

-- the device of a page and a sheet, whose sectors have so many bytes
pub record IsSheetDevice (bytes text : List ℕ) (sector_bytes : ℕ) (device : PlainDevice) : Type 0 where
  pub page : List ℕ
  pub copy : IsFirstCopy bytes page
  pub sound : NoFault page
  pub geometry : Geometry
  pub layout : IsGeometryOf page geometry
  pub sheet : Sheet
  pub is_sheet : IsSheetOf text (Ok sheet)
  pub timing : Timing
  pub is_timing : IsSectorTiming page geometry sheet sector_bytes timing
  pub lengths : PlainLengths
  pub posts : HasPosts timing lengths.sectors
  pub written : device ≡ written_device geometry timing lengths

-- .. with strobes
pub record IsStrobedDevice (bytes text rows : List ℕ) (sector_bytes : ℕ) (device : PlainDevice) : Type 0 where
  pub page : List ℕ
  pub copy : IsFirstCopy bytes page
  pub sound : NoFault page
  pub geometry : Geometry
  pub layout : IsGeometryOf page geometry
  pub sheet : Sheet
  pub is_sheet : IsSheetOf text (Ok sheet)
  pub strobes : Strobes
  pub are_strobes : AreStrobesOf rows (Ok strobes)
  pub timing : Timing
  pub is_timing : IsStrobedSectorTiming page geometry sheet strobes sector_bytes timing
  pub lengths : PlainLengths
  pub posts : HasPosts timing lengths.sectors
  pub written : device ≡ written_device geometry timing lengths

-- a device without strobes has none of their rows
abbrev pub IsDeviceOf : List ℕ → List ℕ → List ℕ → ℕ → PlainDevice → Type 0
IsDeviceOf bytes text [] sector_bytes device = IsSheetDevice bytes text sector_bytes device
IsDeviceOf bytes text (b ∷ rows) sector_bytes device = IsStrobedDevice bytes text (b ∷ rows) sector_bytes device

-- parameters by their numbers, in the order in which a missing one is reported
abbrev pub parameter_number : Parameter → ℕ
parameter_number Twc = 1
parameter_number Trc = 2
parameter_number Tadl = 3
parameter_number Twhr = 4
parameter_number Trhw = 5
parameter_number Twb = 6
parameter_number Tplrbsy = 7
parameter_number Tplpbsy = 8
parameter_number Tplebsy = 9

-- the status for a fault of a geometry
abbrev pub geometry_status : GeometryFault → Status
geometry_status geometry.WideBus = status.WideBus
geometry_status geometry.NoStatusEnhanced = status.NoStatusEnhanced
geometry_status geometry.NoColumnEnhanced = status.NoColumnEnhanced
geometry_status geometry.NoMultiLun = status.NoMultiLun
geometry_status geometry.LunCount = status.LunCount
geometry_status geometry.PlaneBits = status.PlaneBits
geometry_status geometry.Zero = status.Zero
geometry_status geometry.RowTooWide = status.RowTooWide
geometry_status geometry.ColumnTooWide = status.ColumnTooWide
geometry_status geometry.TooLarge = status.TooLarge

-- the refusal for a fault of a sheet, with the parameter or the row that it names
abbrev pub sheet_refusal : SheetFault → Refusal
sheet_refusal (sheet_fault.Missing parameter) = record { status = status.SheetMissing; place = parameter_number parameter }
sheet_refusal (sheet_fault.Repeated parameter) = record { status = status.SheetRepeated; place = parameter_number parameter }
sheet_refusal (sheet_fault.Unknown row) = record { status = status.SheetUnknown; place = row }
sheet_refusal (sheet_fault.NotANumber row) = record { status = status.SheetNotANumber; place = row }
sheet_refusal sheet_fault.ZeroCycle = whole status.SheetZeroCycle
sheet_refusal sheet_fault.TooLong = whole status.SheetTooLong
sheet_refusal sheet_fault.Memory = whole status.Memory

-- why bytes hold no parameter page
abbrev pub IsNoPage : List ℕ → Status → Type 0
IsNoPage bytes status.PageShort = length bytes < 256
IsNoPage bytes status.NoCopy = (256 ≤ length bytes) × ((number : ℕ) → IsPageCopy (copy_at bytes number) → ⊥)
IsNoPage bytes _ = ⊥

-- parameters of strobes by their numbers, in the order in which a missing one is reported
abbrev pub strobe_number : Strobe → ℕ
strobe_number Trpre = 1
strobe_number StrobeTrc = 2
strobe_number Trpst = 3
strobe_number Trpsth = 4
strobe_number Twpre = 5
strobe_number Tdsc = 6
strobe_number Twpst = 7
strobe_number Twpsth = 8

-- the refusal for a fault of strobes, with the parameter or the row that it names
abbrev pub strobe_refusal : StrobeFault → Refusal
strobe_refusal (strobe_fault.Sheet fault) = sheet_refusal fault
strobe_refusal (strobe_fault.Missing strobe) = record { status = status.StrobeMissing; place = strobe_number strobe }
strobe_refusal (strobe_fault.Repeated strobe) = record { status = status.StrobeRepeated; place = strobe_number strobe }
strobe_refusal (strobe_fault.Unknown row) = record { status = status.StrobeUnknown; place = row }
strobe_refusal (strobe_fault.NotANumber row) = record { status = status.StrobeNotANumber; place = row }
strobe_refusal strobe_fault.ZeroCycle = whole status.SheetZeroCycle
strobe_refusal strobe_fault.TooLong = whole status.SheetTooLong
strobe_refusal strobe_fault.Memory = whole status.Memory

-- why page and sheet describe no device: the first of these
pub data IsNoSheetDevice (bytes text : List ℕ) (refusal : Refusal) : Type 0 where
  is_page : (fault : Status) → IsNoPage bytes fault → refusal ≡ whole fault → IsNoSheetDevice bytes text refusal
  is_geometry : (page : List ℕ) (fault : GeometryFault) → IsFirstCopy bytes page → IsFirstFault page fault → refusal ≡ whole (geometry_status fault) → IsNoSheetDevice bytes text refusal
  is_sheet : (page : List ℕ) (fault : SheetFault) → IsFirstCopy bytes page → NoFault page → IsSheetOf text (Err fault) → refusal ≡ sheet_refusal fault → IsNoSheetDevice bytes text refusal
  is_timing : (page : List ℕ) (sheet : Sheet) (fault : SheetFault) → IsFirstCopy bytes page → NoFault page → IsSheetOf text (Ok sheet) → IsTimingFault sheet fault
      → refusal ≡ sheet_refusal fault → IsNoSheetDevice bytes text refusal

-- why page, sheet and strobes describe no device: the first of these
pub data IsNoStrobedDevice (bytes text rows : List ℕ) (refusal : Refusal) : Type 0 where
  no_page : (fault : Status) → IsNoPage bytes fault → refusal ≡ whole fault → IsNoStrobedDevice bytes text rows refusal
  no_geometry : (page : List ℕ) (fault : GeometryFault) → IsFirstCopy bytes page → IsFirstFault page fault → refusal ≡ whole (geometry_status fault)
      → IsNoStrobedDevice bytes text rows refusal
  no_sheet : (page : List ℕ) (fault : SheetFault) → IsFirstCopy bytes page → NoFault page → IsSheetOf text (Err fault) → refusal ≡ sheet_refusal fault
      → IsNoStrobedDevice bytes text rows refusal
  no_strobes : (page : List ℕ) (sheet : Sheet) (fault : StrobeFault) → IsFirstCopy bytes page → NoFault page → IsSheetOf text (Ok sheet)
      → AreStrobesOf rows (Err fault) → refusal ≡ strobe_refusal fault → IsNoStrobedDevice bytes text rows refusal
  no_timing : (page : List ℕ) (sheet : Sheet) (strobes : Strobes) (fault : StrobeFault) → IsFirstCopy bytes page → NoFault page → IsSheetOf text (Ok sheet)
      → AreStrobesOf rows (Ok strobes) → IsStrobedFault sheet strobes fault → refusal ≡ strobe_refusal fault → IsNoStrobedDevice bytes text rows refusal

-- why there is none
abbrev pub IsNoDeviceOf : List ℕ → List ℕ → List ℕ → Refusal → Type 0
IsNoDeviceOf bytes text [] refusal = IsNoSheetDevice bytes text refusal
IsNoDeviceOf bytes text (b ∷ rows) refusal = IsNoStrobedDevice bytes text (b ∷ rows) refusal

-- a caller is given a device, or by a number and a place why there is none
pub data GivesDevice (bytes text rows : List ℕ) (sector_bytes : ℕ) (old new : PlainDevice) (place result : ℕ) : Type 0 where
  gives : IsDeviceOf bytes text rows sector_bytes new → place ≡ 0 → result ≡ 0 → GivesDevice bytes text rows sector_bytes old new place result
  refuses : (refusal : Refusal) → IsNoDeviceOf bytes text rows refusal → new ≡ old → place ≡ refusal.place → result ≡ number_of refusal.status
      → GivesDevice bytes text rows sector_bytes old new place result
