-- What a row says, by its name.
use Rattle.std.specs.Prelude.{ℕ, List, [], ◌∷◌, drop, unwrap_or, Option, Result, Ok, Err}
use Rattle.onfi_timing.specs.declared.fault.SheetFault.{SheetFault}
use Rattle.onfi_timing.specs.declared.sheet.Sheet.{Sheet as SheetOf}
use Rattle.onfi_timing.specs.Sheet.{with_row}
use Rattle.onfi_timing.specs.declared.strobe_fault.StrobeFault.{StrobeFault}
use Rattle.onfi_timing.specs.declared.strobes.Strobes.{Strobes}
use Rattle.onfi_timing.specs.StrobeRows.{no_strobes, with_strobe_row}
use Rattle.onfi_script.specs.declared.fault.ScriptFault.{ScriptFault}
use Rattle.onfi_script.specs.declared.fault.ScriptFault.TheVariants.{Sheet as InSheet, Strobe as InStrobes}
use Rattle.onfi_script.specs.declared.row.Row.{Row}
use Rattle.onfi_script.specs.declared.row.Row.TheVariants.{Shape, Spans, Page, Sheet, Strobe, Bus, Free, Running, Want, Weight, Strict}
use Rattle.onfi_script.specs.Field.{given, field, hex_bytes, number, flag, kind, lun, block, page, span, time, weight}

-- the fields of a row, its name first
abbrev pub Record : Type 0
Record = List (List ℕ)

abbrev pub shape_row : Record → Result Row ScriptFault
shape_row row =
    given (number 1 8 (field row 1)) (λ luns.
    given (number 0 2 (field row 2)) (λ plane_bits.
    given (flag (field row 3)) (λ read.
    given (flag (field row 4)) (λ write.
    Ok (Shape (record { luns = luns; plane_bits = plane_bits; read = read; write = write }))))))

abbrev pub spans_row : Record → Result Row ScriptFault
spans_row row =
    given (kind (field row 1)) (λ kind.
    given (span 1 (field row 2)) (λ cmd.
    given (span 0 (field row 3)) (λ gap.
    given (span 0 (field row 4)) (λ array.
    given (span 1 (field row 5)) (λ post.
    Ok (Spans (record { kind = kind; cmd = cmd; gap = gap; array = array; post = post })))))))

abbrev pub page_row : Record → Result Row ScriptFault
page_row row = given (hex_bytes (field row 1)) (λ bytes. Ok (Page bytes))

-- a sheet with one value more
abbrev pub values_row : Result SheetOf SheetFault → Result Row ScriptFault
values_row (Ok sheet) = Ok (Sheet sheet)
values_row (Err fault) = Err (InSheet fault)

abbrev pub sheet_row : SheetOf → ℕ → Record → Result Row ScriptFault
sheet_row sheet number row = values_row (with_row sheet number (field row 1) (field row 2))

-- strobes with one value more
abbrev pub strobe_values_row : Result Strobes StrobeFault → Result Row ScriptFault
strobe_values_row (Ok strobes) = Ok (Strobe strobes)
strobe_values_row (Err fault) = Err (InStrobes fault)

abbrev pub strobe_row : Option Strobes → ℕ → Record → Result Row ScriptFault
strobe_row strobes number row = strobe_values_row (with_strobe_row (unwrap_or strobes no_strobes) number (field row 1) (field row 2))

abbrev pub bus_row : Record → Result Row ScriptFault
bus_row row = given (time (field row 1)) (λ bus_free. Ok (Bus bus_free))

abbrev pub free_row : Record → Result Row ScriptFault
free_row row = given (lun (field row 1)) (λ lun. given (time (field row 2)) (λ since. Ok (Free lun since)))

-- each of these fields
abbrev pub each_of : (List ℕ → Result ℕ ScriptFault) → List (List ℕ) → Result (List ℕ) ScriptFault
each_of read [] = Ok []
each_of read (text ∷ texts) = given (read text) (λ x. given (each_of read texts) (λ xs. Ok (x ∷ xs)))

abbrev pub blocks_of : List (List ℕ) → Result (List ℕ) ScriptFault
blocks_of texts = each_of block texts

abbrev pub running_row : Record → Result Row ScriptFault
running_row row =
    given (lun (field row 1)) (λ lun.
    given (number 0 7 (field row 2)) (λ next.
    given (time (field row 3)) (λ ready.
    given (kind (field row 4)) (λ kind.
    given (page (field row 5)) (λ page.
    given (blocks_of (drop 6 row)) (λ blocks.
    Ok (Running (record { lun = lun; next = next; ready = ready; kind = kind; page = page; blocks = blocks }))))))))

abbrev pub want_row : Record → Result Row ScriptFault
want_row row =
    given (kind (field row 1)) (λ kind.
    given (lun (field row 2)) (λ lun.
    given (block (field row 3)) (λ block.
    given (page (field row 4)) (λ page.
    Ok (Want kind lun block page)))))

abbrev pub weight_row : Record → Result Row ScriptFault
weight_row row = given (number 0 7 (field row 1)) (λ request. given (weight (field row 2)) (λ weight. Ok (Weight request weight)))

abbrev pub strict_row : Record → Result Row ScriptFault
strict_row row = given (flag (field row 1)) (λ strict. Ok (Strict strict))
