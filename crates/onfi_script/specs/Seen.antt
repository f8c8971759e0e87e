-- What the rows so far show of a script: its form, its timing sheet, its strobes, how many operations may come, and the last moment of arrival.
use Rattle.std.specs.Prelude.{ℕ, ◌-◌, if◌then◌else◌, List, Option, Some, None, fold, unwrap_or}
use Rattle.std.specs.Option.{option_or}
use Rattle.onfi_timing.specs.declared.sheet.Sheet.{Sheet as SheetOf}
use Rattle.onfi_timing.specs.Sheet.{nothing}
use Rattle.onfi_timing.specs.declared.strobes.Strobes.{Strobes}
use Rattle.onfi_script.specs.declared.row.Row.{Row}
use Rattle.onfi_script.specs.declared.row.Row.TheVariants.{Shape, Spans, Page, Sheet, Strobe, SectorPost, Sector, At, Geometry}
use Rattle.onfi_script.specs.declared.row_name.Form.{Form}
use Rattle.onfi_script.specs.declared.row_name.Form.TheVariants.{First, Second}
use Rattle.onfi_script.specs.declared.seen.Seen.{Seen}
use Rattle.onfi_script.specs.Subject.{is_op}

-- the form whose row it is
abbrev pub form_in : Row → Option Form
form_in (Shape row) = Some First
form_in (Spans row) = Some First
form_in (Geometry row) = Some First
form_in (SectorPost row) = Some First
form_in (Page bytes) = Some Second
form_in (Sheet sheet) = Some Second
form_in (Strobe strobes) = Some Second
form_in (Sector bytes) = Some Second
form_in _ = None

-- the sheet of a row of it
abbrev pub sheet_in : Row → Option SheetOf
sheet_in (Sheet sheet) = Some sheet
sheet_in _ = None

-- the strobes of a row of them
abbrev pub strobes_in : Row → Option Strobes
strobes_in (Strobe strobes) = Some strobes
strobes_in _ = None

-- the moment of arrival that the row gives
abbrev pub moment_in : Row → Option ℕ
moment_in (At moment) = Some moment
moment_in _ = None

-- the form is that of the first row of one, sheet, strobes and moment those of the last row of each; at most 10,000 operations may come
abbrev pub seen_after : Seen → Row → Seen
seen_after seen row = record { form = option_or seen.form (form_in row); sheet = unwrap_or (sheet_in row) seen.sheet; strobes = option_or (strobes_in row) seen.strobes; ops_left = if is_op row then seen.ops_left - 1 else seen.ops_left; moment = unwrap_or (moment_in row) seen.moment }

abbrev pub nothing_seen : Seen
nothing_seen = record { form = None; sheet = nothing; strobes = None; ops_left = 10000; moment = 0 }

abbrev pub seen : List Row → Seen
seen rows = fold seen_after nothing_seen rows
