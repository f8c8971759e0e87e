-- Timing sheets: what a parameter is called, and what a sheet says of it.
use Rattle.std.specs.Prelude.{◌≡◌, ◌⊎◌, ◌==◌, ℕ, ◌^◌, nat_lt, length, if◌then◌else◌, List, Option, Some, None, Result, Ok, Err, codes}
use Rattle.std.specs.Str.{bytes_eq}
use Rattle.csv.specs.Reading.{AreRecords, default_config, strip_bom}
use Rattle.csv.specs.declared.parser.State.TheVariants as st
use Rattle.onfi_timing.specs.declared.parameter.Parameter.{Parameter}
use Rattle.onfi_timing.specs.declared.parameter.Parameter.TheVariants.{Twc, Trc, Tadl, Twhr, Trhw, Twb, Tplrbsy, Tplpbsy, Tplebsy}
use Rattle.onfi_timing.specs.declared.sheet.Sheet.{Sheet}
use Rattle.onfi_timing.specs.declared.fault.SheetFault.{SheetFault}
use Rattle.onfi_timing.specs.declared.fault.SheetFault.TheVariants.{Repeated, Unknown, NotANumber, TooLong, Memory}
use Rattle.onfi_timing.specs.Decimal.{number_of}
use Rattle.onfi_timing.specs.Record.{field, with_each}

abbrev pub busy_time_named : List ℕ → Option Parameter
busy_time_named name =
    if bytes_eq name (codes "tWB") then Some Twb
    else (if bytes_eq name (codes "tPLRBSY") then Some Tplrbsy
    else (if bytes_eq name (codes "tPLPBSY") then Some Tplpbsy
    else (if bytes_eq name (codes "tPLEBSY") then Some Tplebsy
    else None)))

abbrev pub parameter_named : List ℕ → Option Parameter
parameter_named name =
    if bytes_eq name (codes "tWC") then Some Twc
    else (if bytes_eq name (codes "tRC") then Some Trc
    else (if bytes_eq name (codes "tADL") then Some Tadl
    else (if bytes_eq name (codes "tWHR") then Some Twhr
    else (if bytes_eq name (codes "tRHW") then Some Trhw
    else busy_time_named name))))

-- what the sheet gives for a parameter, in ns
abbrev pub given : Sheet → Parameter → Option ℕ
given sheet Twc = sheet.t_wc
given sheet Trc = sheet.t_rc
given sheet Tadl = sheet.t_adl
given sheet Twhr = sheet.t_whr
given sheet Trhw = sheet.t_rhw
given sheet Twb = sheet.t_wb
given sheet Tplrbsy = sheet.t_plrbsy
given sheet Tplpbsy = sheet.t_plpbsy
given sheet Tplebsy = sheet.t_plebsy

-- the sheet with that value for the parameter
abbrev pub with_value : Sheet → Parameter → ℕ → Sheet
with_value sheet Twc n = record sheet { t_wc = Some n }
with_value sheet Trc n = record sheet { t_rc = Some n }
with_value sheet Tadl n = record sheet { t_adl = Some n }
with_value sheet Twhr n = record sheet { t_whr = Some n }
with_value sheet Trhw n = record sheet { t_rhw = Some n }
with_value sheet Twb n = record sheet { t_wb = Some n }
with_value sheet Tplrbsy n = record sheet { t_plrbsy = Some n }
with_value sheet Tplpbsy n = record sheet { t_plpbsy = Some n }
with_value sheet Tplebsy n = record sheet { t_plebsy = Some n }

abbrev pub with_number : Sheet → Parameter → ℕ → Option ℕ → Result Sheet SheetFault
with_number sheet parameter row None = Err (NotANumber row)
with_number sheet parameter row (Some n) = if nat_lt n (2 ^ 32) then Ok (with_value sheet parameter n) else Err TooLong

abbrev pub with_new : Sheet → Parameter → ℕ → List ℕ → Option ℕ → Result Sheet SheetFault
with_new sheet parameter row value None = with_number sheet parameter row (number_of value)
with_new sheet parameter row value (Some old) = Err (Repeated parameter)

abbrev pub with_named : Sheet → ℕ → List ℕ → Option Parameter → Result Sheet SheetFault
with_named sheet row value None = Err (Unknown row)
with_named sheet row value (Some parameter) = with_new sheet parameter row value (given sheet parameter)

-- the sheet with one row more, or the first thing that is wrong with the row
abbrev pub with_row : Sheet → ℕ → List ℕ → List ℕ → Result Sheet SheetFault
with_row sheet row name value = with_named sheet row value (parameter_named name)

-- a sheet that gives nothing
abbrev pub nothing : Sheet
nothing = record { t_wc = None; t_rc = None; t_adl = None; t_whr = None; t_rhw = None; t_wb = None; t_plrbsy = None; t_plpbsy = None; t_plebsy = None }

-- .. with a row of text more: its two fields are a name and a value
abbrev pub with_record : Sheet → ℕ → List (List ℕ) → Result Sheet SheetFault
with_record sheet row fields = if length fields == 2 then with_row sheet row (field fields 0) (field fields 1) else Err (Unknown row)

-- .. with these rows more, of which the first has that number; or the first that is refused
abbrev pub with_records : Sheet → ℕ → List (List (List ℕ)) → Result Sheet SheetFault
with_records = with_each with_record

-- the sheet that a text gives, or its first fault, unless memory was refused
abbrev pub IsSheetOf : List ℕ → Result Sheet SheetFault → Type 0
IsSheetOf text result = (result ≡ Err Memory) ⊎ ((records : List (List (List ℕ))) × AreRecords default_config st.StartRecord (strip_bom text) records × (with_records nothing 1 records ≡ result))
