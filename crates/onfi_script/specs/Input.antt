-- The rows of an input.
use Rattle.std.specs.Prelude.{◌≡◌, ℕ, List, Result, Err, MatchOption}
use Rattle.csv.specs.Reading.{AreRecords, default_config, strip_bom}
use Rattle.csv.specs.declared.parser.State.TheVariants as st
use Rattle.onfi_script.specs.declared.fault.Refusal.{Refusal}
use Rattle.onfi_script.specs.declared.fault.ScriptFault.TheVariants.{NoEnd}
use Rattle.onfi_script.specs.declared.purpose.Purpose.{Purpose}
use Rattle.onfi_script.specs.declared.row.Row.{Row}
use Rattle.onfi_script.specs.Row.{Record}
use Rattle.onfi_script.specs.Rows.{rows_of}
use Rattle.onfi_script.specs.Script.{script_of}

-- the rows of the records that the script of this input reads as, or why they are refused
abbrev pub TellsRows : Purpose → List ℕ → Result (List Row) Refusal → Type 0
TellsRows purpose input told = MatchOption (script_of input) (told ≡ Err (record { row = 0; fault = NoEnd }))
    (λ script. (records : List Record) × AreRecords default_config st.StartRecord (strip_bom script) records × (told ≡ rows_of purpose records))
