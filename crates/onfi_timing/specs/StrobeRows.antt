-- Rows of strobes: what a parameter is called, and what strobes say of it.
use Rattle.std.specs.Prelude.{◌≡◌, ◌⊎◌, ◌==◌, ℕ, ◌^◌, nat_lt, length, if◌then◌else◌, List, Option, Some, None, Result, Ok, Err, codes}
use Rattle.std.specs.Str.{bytes_eq}
use Rattle.csv.specs.Reading.{AreRecords, default_config, strip_bom}
use Rattle.csv.specs.declared.parser.State.TheVariants as st
use Rattle.onfi_timing.specs.declared.strobe.Strobe.{Strobe}
use Rattle.onfi_timing.specs.declared.strobe.Strobe.TheVariants.{Trpre, Trc, Trpst, Trpsth, Twpre, Tdsc, Twpst, Twpsth}
use Rattle.onfi_timing.specs.declared.strobes.Strobes.{Strobes}
use Rattle.onfi_timing.specs.declared.strobe_fault.StrobeFault.{StrobeFault}
use Rattle.onfi_timing.specs.declared.strobe_fault.StrobeFault.TheVariants.{Repeated, Unknown, NotANumber, TooLong, Memory}
use Rattle.onfi_timing.specs.Decimal.{number_of}
use Rattle.onfi_timing.specs.Record.{field, with_each}

abbrev pub strobe_in_named : List ℕ → Option Strobe
strobe_in_named name =
    if bytes_eq name (codes "tWPRE") then Some Twpre
    else (if bytes_eq name (codes "tDSC") then Some Tdsc
    else (if bytes_eq name (codes "tWPST") then Some Twpst
    else (if bytes_eq name (codes "tWPSTH") then Some Twpsth
    else None)))

abbrev pub strobe_named : List ℕ → Option Strobe
strobe_named name =
    if bytes_eq name (codes "tRPRE") then Some Trpre
    else (if bytes_eq name (codes "tRC") then Some Trc
    else (if bytes_eq name (codes "tRPST") then Some Trpst
    else (if bytes_eq name (codes "tRPSTH") then Some Trpsth
    else strobe_in_named name)))

-- what the strobes give for a parameter, in ps
abbrev pub strobe_given : Strobes → Strobe → Option ℕ
strobe_given strobes Trpre = strobes.t_rpre
strobe_given strobes Trc = strobes.t_rc
strobe_given strobes Trpst = strobes.t_rpst
strobe_given strobes Trpsth = strobes.t_rpsth
strobe_given strobes Twpre = strobes.t_wpre
strobe_given strobes Tdsc = strobes.t_dsc
strobe_given strobes Twpst = strobes.t_wpst
strobe_given strobes Twpsth = strobes.t_wpsth

-- the strobes with that value for the parameter
abbrev pub with_strobe : Strobes → Strobe → ℕ → Strobes
with_strobe strobes Trpre n = record strobes { t_rpre = Some n }
with_strobe strobes Trc n = record strobes { t_rc = Some n }
with_strobe strobes Trpst n = record strobes { t_rpst = Some n }
with_strobe strobes Trpsth n = record strobes { t_rpsth = Some n }
with_strobe strobes Twpre n = record strobes { t_wpre = Some n }
with_strobe strobes Tdsc n = record strobes { t_dsc = Some n }
with_strobe strobes Twpst n = record strobes { t_wpst = Some n }
with_strobe strobes Twpsth n = record strobes { t_wpsth = Some n }

abbrev pub with_strobe_number : Strobes → Strobe → ℕ → Option ℕ → Result Strobes StrobeFault
with_strobe_number strobes strobe row None = Err (NotANumber row)
with_strobe_number strobes strobe row (Some n) = if nat_lt n (2 ^ 32) then Ok (with_strobe strobes strobe n) else Err TooLong

abbrev pub with_strobe_new : Strobes → Strobe → ℕ → List ℕ → Option ℕ → Result Strobes StrobeFault
with_strobe_new strobes strobe row value None = with_strobe_number strobes strobe row (number_of value)
with_strobe_new strobes strobe row value (Some old) = Err (Repeated strobe)

abbrev pub with_strobe_of : Strobes → ℕ → List ℕ → Option Strobe → Result Strobes StrobeFault
with_strobe_of strobes row value None = Err (Unknown row)
with_strobe_of strobes row value (Some strobe) = with_strobe_new strobes strobe row value (strobe_given strobes strobe)

-- the strobes with one row more, or the first thing that is wrong with the row
abbrev pub with_strobe_row : Strobes → ℕ → List ℕ → List ℕ → Result Strobes StrobeFault
with_strobe_row strobes row name value = with_strobe_of strobes row value (strobe_named name)

-- strobes that give nothing
abbrev pub no_strobes : Strobes
no_strobes = record { t_rpre = None; t_rc = None; t_rpst = None; t_rpsth = None; t_wpre = None; t_dsc = None; t_wpst = None; t_wpsth = None }

-- .. with a row of text more: its two fields are a name and a value
abbrev pub with_strobe_record : Strobes → ℕ → List (List ℕ) → Result Strobes StrobeFault
with_strobe_record strobes row fields = if length fields == 2 then with_strobe_row strobes row (field fields 0) (field fields 1) else Err (Unknown row)

-- .. with these rows more, of which the first has that number; or the first that is refused
abbrev pub with_strobe_records : Strobes → ℕ → List (List (List ℕ)) → Result Strobes StrobeFault
with_strobe_records = with_each with_strobe_record

-- the strobes that a text gives, or its first fault, unless memory was refused
abbrev pub AreStrobesOf : List ℕ → Result Strobes StrobeFault → Type 0
AreStrobesOf text result = (result ≡ Err Memory) ⊎ ((records : List (List (List ℕ))) × AreRecords default_config st.StartRecord (strip_bom text) records × (with_strobe_records no_strobes 1 records ≡ result))
