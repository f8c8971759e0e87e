-- The table of phase lengths where data and status bytes go by strobes (ONFI 4.2, NV-DDR2 and NV-DDR3): sums in ps, rounded up
-- to whole ns once for each phase. Commands and addresses go by tWC, as without strobes.
use Rattle.std.specs.Prelude.{◌≡◌, ℕ, ◌+◌, ◌*◌, ◌/◌, ◌≤◌, ◌⊎◌, List, [], ◌∷◌, Option, Some, None, find, is_none}
use Rattle.onfi_param.specs.Fields.{t_prog, t_bers, t_r, t_ccs}
use Rattle.onfi_addr.specs.declared.geometry.Geometry.{Geometry}
use Rattle.onfi_addr.specs.Rows.{page_bytes_of}
use Rattle.onfi_timing.specs.declared.fault.SheetFault.{SheetFault}
use Rattle.onfi_timing.specs.declared.fault.SheetFault.TheVariants as in_sheet
use Rattle.onfi_timing.specs.declared.sheet.Sheet.{Sheet}
use Rattle.onfi_timing.specs.declared.spans.Spans.{Spans}
use Rattle.onfi_timing.specs.declared.strobe.Strobe.{Strobe}
use Rattle.onfi_timing.specs.declared.strobe.Strobe.TheVariants.{Trpre, Trc, Trpst, Trpsth, Twpre, Tdsc, Twpst, Twpsth}
use Rattle.onfi_timing.specs.declared.strobe_fault.StrobeFault.{StrobeFault}
use Rattle.onfi_timing.specs.declared.strobe_fault.StrobeFault.TheVariants as of
use Rattle.onfi_timing.specs.declared.strobe_values.StrobeValues.{StrobeValues}
use Rattle.onfi_timing.specs.declared.strobes.Strobes.{Strobes}
use Rattle.onfi_timing.specs.declared.timing.Timing.{Timing}
use Rattle.onfi_timing.specs.declared.values.Values.{Values}
use Rattle.onfi_timing.specs.StrobeRows.{strobe_given}
use Rattle.onfi_timing.specs.Table.{Gives, first_missing, ns_of, command_cycles}

-- the parameters of strobes, in the order in which a missing one is reported
abbrev pub strobes_in_order : List Strobe
strobes_in_order = Trpre ∷ Trc ∷ Trpst ∷ Trpsth ∷ Twpre ∷ Tdsc ∷ Twpst ∷ Twpsth ∷ []

-- the strobes give these values
pub record Give (strobes : Strobes) (values : StrobeValues) : Type 0 where
  pub t_rpre : strobes.t_rpre ≡ Some values.t_rpre
  pub t_rc : strobes.t_rc ≡ Some values.t_rc
  pub t_rpst : strobes.t_rpst ≡ Some values.t_rpst
  pub t_rpsth : strobes.t_rpsth ≡ Some values.t_rpsth
  pub t_wpre : strobes.t_wpre ≡ Some values.t_wpre
  pub t_dsc : strobes.t_dsc ≡ Some values.t_dsc
  pub t_wpst : strobes.t_wpst ≡ Some values.t_wpst
  pub t_wpsth : strobes.t_wpsth ≡ Some values.t_wpsth

-- the first parameter that the strobes don't give
abbrev pub first_missing_strobe : Strobes → Option Strobe
first_missing_strobe strobes = find (λ strobe. is_none (strobe_given strobes strobe)) strobes_in_order

-- the cycles of that many bytes: two go in one, and an odd last byte takes a whole one
abbrev pub cycles : ℕ → ℕ
cycles bytes = (bytes + 1) / 2

-- how long that many bytes take out of the device, in ps
abbrev pub bytes_out : StrobeValues → ℕ → ℕ
bytes_out s bytes = s.t_rpre + cycles bytes * s.t_rc + s.t_rpst + s.t_rpsth

-- how long that many bytes take into the device, in ps
abbrev pub bytes_in : StrobeValues → ℕ → ℕ
bytes_in s bytes = s.t_wpre + cycles bytes * s.t_dsc + s.t_wpst + s.t_wpsth

-- ps in whole ns, rounded up
abbrev pub ns_up : ℕ → ℕ
ns_up ps = (ps + 999) / 1000

-- a status byte: its command and row cycles, then one byte by strobes
abbrev pub strobed_status : Geometry → Values → StrobeValues → ℕ
strobed_status g v s = ns_up (1000 * ((1 + g.row_address_cycles) * v.t_wc + v.t_whr + v.t_rhw) + bytes_out s 1)

pub record IsStrobedRead (page : List ℕ) (g : Geometry) (v : Values) (s : StrobeValues) (spans : Spans) : Type 0 where
  pub cmd : spans.cmd ≡ command_cycles g * v.t_wc
  pub gap : spans.gap ≡ v.t_wb + v.t_plrbsy
  pub array : spans.array ≡ v.t_wb + ns_of (t_r page)
  pub post : spans.post ≡ ns_up (1000 * (command_cycles g * v.t_wc + t_ccs page + v.t_rhw) + bytes_out s (page_bytes_of g))

pub record IsStrobedProgram (page : List ℕ) (g : Geometry) (v : Values) (s : StrobeValues) (spans : Spans) : Type 0 where
  pub cmd : spans.cmd ≡ ns_up (1000 * (command_cycles g * v.t_wc + v.t_adl) + bytes_in s (page_bytes_of g))
  pub gap : spans.gap ≡ v.t_wb + v.t_plpbsy
  pub array : spans.array ≡ v.t_wb + ns_of (t_prog page)
  pub post : spans.post ≡ strobed_status g v s

pub record IsStrobedErase (page : List ℕ) (g : Geometry) (v : Values) (s : StrobeValues) (spans : Spans) : Type 0 where
  pub cmd : spans.cmd ≡ (2 + g.row_address_cycles) * v.t_wc
  pub gap : spans.gap ≡ v.t_wb + v.t_plebsy
  pub array : spans.array ≡ v.t_wb + ns_of (t_bers page)
  pub post : spans.post ≡ strobed_status g v s

pub record IsStrobedTimingOf (page : List ℕ) (g : Geometry) (v : Values) (s : StrobeValues) (timing : Timing) : Type 0 where
  pub read : IsStrobedRead page g v s timing.read
  pub program : IsStrobedProgram page g v s timing.program
  pub erase : IsStrobedErase page g v s timing.erase

-- the sheet as it is read beside strobes: its tRC is not looked at, and no length has it
abbrev pub beside_strobes : Sheet → Sheet
beside_strobes sheet = record sheet { t_rc = Some 0 }

-- the sheet beside strobes lacks nothing, and its tWC is not 0
pub record IsSheetBeside (sheet : Sheet) (values : Values) : Type 0 where
  pub given : Gives (beside_strobes sheet) values
  pub none_missing : first_missing (beside_strobes sheet) ≡ None
  pub write_cycle : 1 ≤ values.t_wc

-- why the sheet is none beside strobes: its first missing parameter, or a cycle without length
abbrev pub IsBesideFault : Sheet → SheetFault → Type 0
IsBesideFault sheet (in_sheet.Missing parameter) = first_missing (beside_strobes sheet) ≡ Some parameter
IsBesideFault sheet in_sheet.ZeroCycle = (first_missing (beside_strobes sheet) ≡ None) × (sheet.t_wc ≡ Some 0)
IsBesideFault sheet _ = ⊥

-- why there are no phase lengths: the sheet, then the first missing parameter of the strobes, then a cycle without length
abbrev pub IsStrobedFault : Sheet → Strobes → StrobeFault → Type 0
IsStrobedFault sheet strobes (of.Sheet fault) = IsBesideFault sheet fault
IsStrobedFault sheet strobes (of.Missing strobe) = (values : Values) × IsSheetBeside sheet values × (first_missing_strobe strobes ≡ Some strobe)
IsStrobedFault sheet strobes of.ZeroCycle =
    (values : Values) × IsSheetBeside sheet values × (first_missing_strobe strobes ≡ None) × ((strobes.t_rc ≡ Some 0) ⊎ (strobes.t_dsc ≡ Some 0))
IsStrobedFault sheet strobes _ = ⊥

-- the phase lengths by page, geometry, sheet and strobes
pub record IsStrobedTiming (page : List ℕ) (g : Geometry) (sheet : Sheet) (strobes : Strobes) (timing : Timing) : Type 0 where
  pub values : Values
  pub sheet_gives : IsSheetBeside sheet values
  pub strobe_values : StrobeValues
  pub strobes_give : Give strobes strobe_values
  pub none_missing : first_missing_strobe strobes ≡ None
  pub read_cycle : 1 ≤ strobe_values.t_rc
  pub write_cycle : 1 ≤ strobe_values.t_dsc
  pub table : IsStrobedTimingOf page g values strobe_values timing
