-- The names of rows, what they are taken for, and how many fields each has.
use Rattle.std.specs.Prelude.{ℕ, ◌==◌, ◌&&◌, ◌||◌, not, nat_le, if◌then◌else◌, Bool, true, false, List, length, Option, Some, None, is_some, codes}
use Rattle.std.specs.Option.{option_or}
use Rattle.std.specs.Str.{bytes_eq}
use Rattle.onfi_script.specs.Field.{field}
use Rattle.onfi_script.specs.declared.purpose.Purpose.{Purpose}
use Rattle.onfi_script.specs.declared.purpose.Purpose.TheVariants.{Problem, Run, Clocked}
use Rattle.onfi_script.specs.declared.row_name.Form.{Form}
use Rattle.onfi_script.specs.declared.row_name.Form.TheVariants.{First, Second}
use Rattle.onfi_script.specs.declared.row_name.RowName.{RowName}
use Rattle.onfi_script.specs.declared.row_name.RowName.TheVariants.{Shape, Spans, Page, Sheet, Strobe, Bus, Free, Running, Want, Weight, SectorPost, Sector, Sectors, RunSectors, Strict, Channels, Hosts, Batch, SubmitCap, PostCap, Op, OpRead, Fault, ChipFail, NotReady, Array, At, Geometry}

-- the rows that are taken for a run alone
abbrev pub run_name_of : List ℕ → Option RowName
run_name_of text =
    if bytes_eq text (codes "channels") then Some Channels
    else (if bytes_eq text (codes "hosts") then Some Hosts
    else (if bytes_eq text (codes "batch") then Some Batch
    else (if bytes_eq text (codes "submitcap") then Some SubmitCap
    else (if bytes_eq text (codes "postcap") then Some PostCap
    else (if bytes_eq text (codes "op") then Some Op
    else (if bytes_eq text (codes "opread") then Some OpRead
    else (if bytes_eq text (codes "fault") then Some Fault
    else (if bytes_eq text (codes "chipfail") then Some ChipFail
    else (if bytes_eq text (codes "notready") then Some NotReady
    else (if bytes_eq text (codes "array") then Some Array
    else (if bytes_eq text (codes "at") then Some At
    else (if bytes_eq text (codes "geometry") then Some Geometry
    else None))))))))))))

-- the rows of reads of some sectors
abbrev pub sectors_name_of : List ℕ → Option RowName
sectors_name_of text =
    if bytes_eq text (codes "sectorpost") then Some SectorPost
    else (if bytes_eq text (codes "sector") then Some Sector
    else (if bytes_eq text (codes "sectors") then Some Sectors
    else (if bytes_eq text (codes "runsectors") then Some RunSectors
    else None)))

abbrev pub name_of : List ℕ → Option RowName
name_of text =
    if bytes_eq text (codes "shape") then Some Shape
    else (if bytes_eq text (codes "spans") then Some Spans
    else (if bytes_eq text (codes "page") then Some Page
    else (if bytes_eq text (codes "sheet") then Some Sheet
    else (if bytes_eq text (codes "strobe") then Some Strobe
    else (if bytes_eq text (codes "bus") then Some Bus
    else (if bytes_eq text (codes "free") then Some Free
    else (if bytes_eq text (codes "running") then Some Running
    else (if bytes_eq text (codes "want") then Some Want
    else (if bytes_eq text (codes "weight") then Some Weight
    else (if bytes_eq text (codes "strict") then Some Strict
    else option_or (sectors_name_of text) (run_name_of text)))))))))))

-- the rows that are taken for a problem alone
abbrev pub is_of_problem : RowName → Bool
is_of_problem Bus = true
is_of_problem Free = true
is_of_problem Running = true
is_of_problem Want = true
is_of_problem Weight = true
is_of_problem SectorPost = true
is_of_problem Sectors = true
is_of_problem RunSectors = true
is_of_problem _ = false

-- .. and for a run too
abbrev pub is_of_both : RowName → Bool
is_of_both Shape = true
is_of_both Spans = true
is_of_both Page = true
is_of_both Sheet = true
is_of_both Strobe = true
is_of_both Sector = true
is_of_both Strict = true
is_of_both _ = false

-- the rows that are taken for a run by a clock alone
abbrev pub is_of_clock : RowName → Bool
is_of_clock At = true
is_of_clock _ = false

abbrev pub is_taken : Purpose → RowName → Bool
is_taken Problem name = is_of_both name || is_of_problem name
is_taken Run name = is_of_both name || not (is_of_problem name || is_of_clock name)
is_taken Clocked name = is_of_both name || not (is_of_problem name)

-- the form whose row it is
abbrev pub form_of : RowName → Option Form
form_of Shape = Some First
form_of Spans = Some First
form_of Geometry = Some First
form_of SectorPost = Some First
form_of Page = Some Second
form_of Sheet = Some Second
form_of Strobe = Some Second
form_of Sector = Some Second
form_of _ = None

abbrev pub is_form : Form → Form → Bool
is_form First First = true
is_form Second Second = true
is_form form other = false

-- a row of that form, or of none, may stand in a script of this form, or of none as yet
abbrev pub fits : Option Form → Option Form → Bool
fits None form = true
fits (Some own) None = true
fits (Some own) (Some form) = is_form own form

-- the rows that describe a device of the first form, of a problem as well as of a run
abbrev pub is_of_any_device : RowName → Bool
is_of_any_device Shape = true
is_of_any_device Spans = true
is_of_any_device _ = false

-- in a script of a run they stand after a row `geometry`
abbrev pub stands : Purpose → RowName → Option Form → Bool
stands Problem name form = fits (form_of name) form
stands _ name form = fits (form_of name) form && (is_some form || not (is_of_any_device name))

-- a row `op` has a field for the bytes of a program, and none for those of other kinds
abbrev pub op_fields : List (List ℕ) → ℕ
op_fields row = if bytes_eq (field row 3) (codes "program") then 8 else 7

-- a row has as many fields as it needs, its name with them
abbrev pub has_fields : RowName → List (List ℕ) → Bool
has_fields Shape row = length row == 5
has_fields Spans row = length row == 6
has_fields Page row = length row == 2
has_fields Sheet row = length row == 3
has_fields Strobe row = length row == 3
has_fields Bus row = length row == 2
has_fields Free row = length row == 3
has_fields Running row = nat_le 7 (length row) && nat_le (length row) 10
has_fields Want row = length row == 5
has_fields Weight row = length row == 3
has_fields SectorPost row = length row == 3
has_fields Sector row = length row == 2
has_fields Sectors row = length row == 3
has_fields RunSectors row = nat_le 3 (length row) && nat_le (length row) 6
has_fields Strict row = length row == 2
has_fields Channels row = length row == 2
has_fields Hosts row = length row == 2
has_fields Batch row = length row == 2
has_fields SubmitCap row = length row == 2
has_fields PostCap row = length row == 2
has_fields At row = length row == 2
has_fields ChipFail row = length row == 3
has_fields NotReady row = length row == 3
has_fields Fault row = length row == 5
has_fields Array row = length row == 5
has_fields Geometry row = length row == 5
has_fields Op row = length row == op_fields row
has_fields OpRead row = length row == 8
