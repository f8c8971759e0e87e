-- The rows of a script, read from the top, or the first that is refused.
use Rattle.std.specs.Prelude.{ℕ, ◌+◌, ◌&&◌, ◌==◌, if◌then◌else◌, Bool, false, List, [], ◌∷◌, ◌++◌, length, Option, Some, None, Result, Ok, Err}
use Rattle.std.specs.List.{list_any}
use Rattle.onfi_script.specs.declared.purpose.Purpose.{Purpose}
use Rattle.onfi_script.specs.declared.fault.ScriptFault.{ScriptFault}
use Rattle.onfi_script.specs.declared.fault.ScriptFault.TheVariants.{UnknownRow, NotHere, FieldCount, OutOfRange, Repeated}
use Rattle.onfi_script.specs.declared.fault.Refusal.{Refusal}
use Rattle.onfi_script.specs.declared.row.Row.{Row}
use Rattle.onfi_script.specs.declared.row.Subject.{Subject}
use Rattle.onfi_script.specs.declared.row_name.RowName.{RowName}
use Rattle.onfi_script.specs.declared.row_name.RowName.TheVariants.{Shape, Spans, Page, Sheet, Strobe, Bus, Free, Running, Want, Weight, SectorPost, Sector, Sectors, RunSectors, Strict, Channels, Hosts, Batch, SubmitCap, PostCap, Op, OpRead, Fault, ChipFail, NotReady, Array, At, Geometry}
use Rattle.onfi_script.specs.Field.{given, field}
use Rattle.onfi_script.specs.RowName.{name_of, is_taken, stands, has_fields}
use Rattle.onfi_script.specs.Row.{Record, shape_row, spans_row, page_row, sheet_row, strobe_row, bus_row, free_row, running_row, want_row, weight_row, strict_row}
use Rattle.onfi_script.specs.declared.seen.Seen.{Seen}
use Rattle.onfi_script.specs.Seen.{seen}
use Rattle.onfi_script.specs.RunRow.{array_row, at_row, geometry_row, channels_row, hosts_row, batch_row, submit_cap_row, post_cap_row, op_row, op_read_row, fault_row, chip_fail_row, not_ready_row}
use Rattle.onfi_script.specs.SectorRow.{sector_post_row, sector_row, sectors_row, run_sectors_row}
use Rattle.onfi_script.specs.Subject.{subject_of, settles, is_op}

-- what row number `number` of that name says; a row of the sheet or of strobes is read with those before it
abbrev pub said : RowName → Seen → ℕ → Record → Result Row ScriptFault
said Shape seen number row = shape_row row
said Spans seen number row = spans_row row
said Page seen number row = page_row row
said Sheet seen number row = sheet_row seen.sheet number row
said Strobe seen number row = strobe_row seen.strobes number row
said Bus seen number row = bus_row row
said Free seen number row = free_row row
said Running seen number row = running_row row
said Want seen number row = want_row row
said Weight seen number row = weight_row row
said SectorPost seen number row = sector_post_row row
said Sector seen number row = sector_row row
said Sectors seen number row = sectors_row row
said RunSectors seen number row = run_sectors_row row
said Strict seen number row = strict_row row
said Channels seen number row = channels_row row
said Hosts seen number row = hosts_row row
said Batch seen number row = batch_row row
said SubmitCap seen number row = submit_cap_row row
said PostCap seen number row = post_cap_row row
said Op seen number row = op_row row
said OpRead seen number row = op_read_row row
said Fault seen number row = fault_row row
said ChipFail seen number row = chip_fail_row row
said NotReady seen number row = not_ready_row row
said Array seen number row = array_row row
said At seen number row = at_row seen.moment row
said Geometry seen number row = geometry_row row

-- an earlier row settles the same
abbrev pub is_settled : Option Subject → List Row → Bool
is_settled None earlier = false
is_settled (Some subject) earlier = list_any (settles subject) earlier

-- the row, where nothing is wrong with it after rows that leave so many operations
abbrev pub admitted : ℕ → List Row → Row → Result Row ScriptFault
admitted ops_left earlier row =
    if is_settled (subject_of row) earlier then Err Repeated
    else (if is_op row && (ops_left == 0) then Err OutOfRange else Ok row)

abbrev pub row_named : Purpose → Seen → List Row → Option RowName → Record → Result Row ScriptFault
row_named purpose seen earlier None row = Err UnknownRow
row_named purpose seen earlier (Some name) row =
    if is_taken purpose name && stands purpose name seen.form
    then (if has_fields name row then given (said name seen (length earlier + 1) row) (admitted seen.ops_left earlier) else Err FieldCount)
    else Err NotHere

-- what a row says after these earlier ones, which show that much
abbrev pub row_of : Purpose → Seen → List Row → Record → Result Row ScriptFault
row_of purpose seen earlier row = row_named purpose seen earlier (name_of (field row 0)) row

-- goes on with what was read of row number `row`, or refuses it
abbrev pub told : {A B : Type 0} → ℕ → Result A ScriptFault → (A → Result B Refusal) → Result B Refusal
told row (Ok x) f = f x
told row (Err fault) f = Err (record { row = row; fault = fault })

-- the rows of the records after these earlier ones
unfoldable pub rows_after : Purpose → List Row → List Record → Result (List Row) Refusal
rows_after purpose earlier [] = Ok earlier
rows_after purpose earlier (record' ∷ records) = told (length earlier + 1) (row_of purpose (seen earlier) earlier record') (λ row. rows_after purpose (earlier ++ row ∷ []) records)

abbrev pub rows_of : Purpose → List Record → Result (List Row) Refusal
rows_of purpose records = rows_after purpose [] records
