-- What stands in the fields of a row.
use Rattle.std.specs.Prelude.{ℕ, ◌==◌, ◌&&◌, nat_le, if◌then◌else◌, Bool, List, [], unwrap_or, Option, Some, None, Result, Ok, Err, codes}
use Rattle.std.specs.Str.{bytes_eq}
use Rattle.csv.specs.Records.{field_at}
use Rattle.hex.specs.Hex.{decode_of}
use Rattle.hex.specs.declared.error.FromHexError.{FromHexError}
use Rattle.onfi_timing.specs.Decimal.{number_of}
use Rattle.onfi_timing.specs.declared.kind.Kind.{Kind}
use Rattle.onfi_timing.specs.declared.kind.Kind.TheVariants.{Read, Program, Erase}
use Rattle.onfi_script.specs.declared.fault.ScriptFault.{ScriptFault}
use Rattle.onfi_script.specs.declared.fault.ScriptFault.TheVariants.{Hex, NotANumber, OutOfRange}

-- goes on with what was read, or says why nothing was
abbrev pub given : {A B : Type 0} → Result A ScriptFault → (A → Result B ScriptFault) → Result B ScriptFault
given (Ok x) f = f x
given (Err fault) f = Err fault

-- a field of a row, from 0, which is its name; nothing where the row is shorter
abbrev pub field : List (List ℕ) → ℕ → List ℕ
field row at = unwrap_or (field_at row at) []

-- the number, where there is one from `least` to `most`
abbrev pub within : ℕ → ℕ → Option ℕ → Result ℕ ScriptFault
within least most None = Err NotANumber
within least most (Some n) = if nat_le least n && nat_le n most then Ok n else Err OutOfRange

-- a number in digits, from `least` to `most`
abbrev pub number : ℕ → ℕ → List ℕ → Result ℕ ScriptFault
number least most text = within least most (number_of text)

-- 0 or 1
abbrev pub flag : List ℕ → Result Bool ScriptFault
flag text = given (number 0 1 text) (λ n. Ok (n == 1))

abbrev pub kind : List ℕ → Result Kind ScriptFault
kind text =
    if bytes_eq text (codes "read") then Ok Read
    else (if bytes_eq text (codes "program") then Ok Program
    else (if bytes_eq text (codes "erase") then Ok Erase
    else Err OutOfRange))

abbrev pub lun : List ℕ → Result ℕ ScriptFault
lun text = number 0 7 text

abbrev pub block : List ℕ → Result ℕ ScriptFault
block text = number 0 65535 text

abbrev pub page : List ℕ → Result ℕ ScriptFault
page text = number 0 4095 text

abbrev pub weight : List ℕ → Result ℕ ScriptFault
weight text = number 1 65535 text

abbrev pub sector_bytes : List ℕ → Result ℕ ScriptFault
sector_bytes text = number 1 65535 text

-- how many sectors are put out; 0 is all of a page
abbrev pub sectors : List ℕ → Result ℕ ScriptFault
sectors text = number 0 7 text

-- .. one at least
abbrev pub some_sectors : List ℕ → Result ℕ ScriptFault
some_sectors text = number 1 7 text

-- the sector that is put out first
abbrev pub first_sector : List ℕ → Result ℕ ScriptFault
first_sector text = number 0 255 text

-- a length or a wait in ns, below 2^50
abbrev pub span : ℕ → List ℕ → Result ℕ ScriptFault
span least text = number least 1125899906842623 text

-- a time in ns, below 2^62
abbrev pub time : List ℕ → Result ℕ ScriptFault
time text = number 0 4611686018427387903 text

-- bytes in hexadecimal
abbrev pub in_hex : Result (List ℕ) FromHexError → Result (List ℕ) ScriptFault
in_hex (Ok bytes) = Ok bytes
in_hex (Err fault) = Err Hex

abbrev pub hex_bytes : List ℕ → Result (List ℕ) ScriptFault
hex_bytes text = in_hex (decode_of text)
