-- The texts that are written.
use Rattle.std.specs.Prelude.{ℕ, ◌+◌, ◌++◌, nat_lt, if◌then◌else◌, List, [], ◌∷◌, codes}
use Rattle.std.specs.List.{flat_map}
use Rattle.std.specs.Fmt.{decimal}
use Rattle.onfi_request.specs.declared.want.Want.{Want}
use Rattle.onfi_param.specs.declared.fault.PageFault.{PageFault}
use Rattle.onfi_param.specs.declared.fault.PageFault.TheVariants.{Short, NoCopy}
use Rattle.onfi_addr.specs.declared.fault.GeometryFault.{GeometryFault}
use Rattle.onfi_addr.specs.declared.fault.GeometryFault.TheVariants.{WideBus, NoStatusEnhanced, NoColumnEnhanced, NoMultiLun, LunCount, PlaneBits, Zero, RowTooWide, ColumnTooWide, TooLarge}
use Rattle.onfi_timing.specs.declared.fault.SheetFault.{SheetFault}
use Rattle.onfi_timing.specs.declared.fault.SheetFault.TheVariants as sheet
use Rattle.onfi_timing.specs.declared.strobe_fault.StrobeFault.{StrobeFault}
use Rattle.onfi_timing.specs.declared.strobe_fault.StrobeFault.TheVariants as strobe
use Rattle.onfi_problem.specs.declared.fault.ProblemFault.{ProblemFault}
use Rattle.onfi_problem.specs.declared.fault.ProblemFault.TheVariants.{TooMany, BadLun, NoLengths, Clock, Memory}
use Rattle.onfi_request.specs.declared.checking.RequestFault.{RequestFault}
use Rattle.onfi_request.specs.declared.checking.RequestFault.TheVariants as request
use Rattle.onfi_schedule.specs.Schedule.{Placed, Schedule}
use Rattle.onfi_cert.specs.declared.fault.CertTextFault.{CertTextFault}
use Rattle.onfi_cert.specs.declared.fault.CertTextFault.TheVariants as cert_text
use Rattle.onfi_check.specs.declared.fault.CertFault.{CertFault}
use Rattle.onfi_check.specs.declared.fault.CertFault.TheVariants as cert
use Rattle.onfi_check.specs.declared.fault.TextFault.{TextFault}
use Rattle.onfi_check.specs.declared.fault.TextFault.TheVariants as in_text
use Rattle.onfi_known_check.specs.declared.fault.KnownFault.{KnownFault}
use Rattle.onfi_known_check.specs.declared.fault.KnownFault.TheVariants as known
use Rattle.onfi_known_check.specs.declared.fault.KnownTextFault.{KnownTextFault}
use Rattle.onfi_known_check.specs.declared.fault.KnownTextFault.TheVariants as in_known
use Rattle.onfi_script.specs.declared.fault.ScriptFault.{ScriptFault}
use Rattle.onfi_script.specs.declared.fault.ScriptFault.TheVariants.{NoEnd, UnknownRow, FieldCount, NotANumber, OutOfRange, Repeated, Missing, Hex, Page, Geometry, Sheet, Strobe, Problem, Request, NotHere}
use Rattle.onfi_script.specs.declared.why.Why.{Why}
use Rattle.onfi_script.specs.declared.why.Why.TheVariants as why
use Rattle.onfi_script.specs.declared.fault.Refusal.{Refusal}

-- what is written, and the status that the program ends with
pub record Answer : Type 0 where
  pub text : List ℕ
  pub status : ℕ

abbrev pub memory : Answer
memory = record { text = codes "memory\n"; status = 4 }

-- a line of a word and a number
abbrev pub line : List ℕ → ℕ → ℕ → Answer
line word number status = record { text = word ++ (codes " " ++ (decimal number ++ codes "\n")); status = status }

abbrev pub page_name : PageFault → List ℕ
page_name Short = codes "Page Short"
page_name NoCopy = codes "Page NoCopy"

abbrev pub geometry_name : GeometryFault → List ℕ
geometry_name WideBus = codes "Geometry WideBus"
geometry_name NoStatusEnhanced = codes "Geometry NoStatusEnhanced"
geometry_name NoColumnEnhanced = codes "Geometry NoColumnEnhanced"
geometry_name NoMultiLun = codes "Geometry NoMultiLun"
geometry_name LunCount = codes "Geometry LunCount"
geometry_name PlaneBits = codes "Geometry PlaneBits"
geometry_name Zero = codes "Geometry Zero"
geometry_name RowTooWide = codes "Geometry RowTooWide"
geometry_name ColumnTooWide = codes "Geometry ColumnTooWide"
geometry_name TooLarge = codes "Geometry TooLarge"

abbrev pub sheet_name : SheetFault → List ℕ
sheet_name (sheet.Missing parameter) = codes "Sheet Missing"
sheet_name (sheet.Repeated parameter) = codes "Sheet Repeated"
sheet_name (sheet.Unknown row) = codes "Sheet Unknown"
sheet_name (sheet.NotANumber row) = codes "Sheet NotANumber"
sheet_name sheet.ZeroCycle = codes "Sheet ZeroCycle"
sheet_name sheet.TooLong = codes "Sheet TooLong"
sheet_name sheet.Memory = codes "Sheet Memory"

abbrev pub strobe_name : StrobeFault → List ℕ
strobe_name (strobe.Sheet fault) = sheet_name fault
strobe_name (strobe.Missing parameter) = codes "Strobe Missing"
strobe_name (strobe.Repeated parameter) = codes "Strobe Repeated"
strobe_name (strobe.Unknown row) = codes "Strobe Unknown"
strobe_name (strobe.NotANumber row) = codes "Strobe NotANumber"
strobe_name strobe.ZeroCycle = codes "Strobe ZeroCycle"
strobe_name strobe.TooLong = codes "Strobe TooLong"
strobe_name strobe.Memory = codes "Strobe Memory"

abbrev pub problem_name : ProblemFault → List ℕ
problem_name TooMany = codes "Problem TooMany"
problem_name BadLun = codes "Problem BadLun"
problem_name NoLengths = codes "Problem NoLengths"
problem_name Clock = codes "Problem Clock"
problem_name Memory = codes "Problem Memory"

abbrev pub request_name : RequestFault → List ℕ
request_name request.Lun = codes "Request Lun"
request_name request.Block = codes "Request Block"
request_name request.Page = codes "Request Page"
request_name request.DataLength = codes "Request DataLength"
request_name request.Sectors = codes "Request Sectors"

abbrev pub name_of : ScriptFault → List ℕ
name_of NoEnd = codes "NoEnd"
name_of UnknownRow = codes "UnknownRow"
name_of FieldCount = codes "FieldCount"
name_of NotANumber = codes "NotANumber"
name_of OutOfRange = codes "OutOfRange"
name_of Repeated = codes "Repeated"
name_of Missing = codes "Missing"
name_of Hex = codes "Hex"
name_of (Page fault) = page_name fault
name_of (Geometry fault) = geometry_name fault
name_of (Sheet fault) = sheet_name fault
name_of (Strobe fault) = strobe_name fault
name_of (Problem fault) = problem_name fault
name_of (Request fault) = request_name fault
name_of NotHere = codes "NotHere"

abbrev pub refused : Refusal → Answer
refused refusal = record { text = codes "script refused " ++ (decimal refusal.row ++ (codes " " ++ (name_of refusal.fault ++ codes "\n"))); status = 1 }

-- each number after a space
abbrev pub spaced : List ℕ → List ℕ
spaced numbers = flat_map (λ n. codes " " ++ decimal n) numbers

-- the numbers of the wants after the first, each after a plus
abbrev pub joined : List Want → List ℕ
joined wants = flat_map (λ w. codes "+" ++ decimal w.id) wants

abbrev pub ids : List Want → List ℕ
ids [] = []
ids (w ∷ wants) = decimal w.id ++ joined wants

abbrev pub group_line : Placed → List ℕ
group_line g = codes "group " ++ ids g.members ++ spaced g.starts ++ codes "\n"

-- of a LUN with phases left of a running group
abbrev pub rest_line : ℕ → List ℕ → List ℕ
rest_line lun [] = []
rest_line lun (start ∷ starts) = codes "rest " ++ decimal lun ++ spaced (start ∷ starts) ++ codes "\n"

-- of the LUNs from number `lun` on
unfoldable pub rest_lines : ℕ → List (List ℕ) → List ℕ
rest_lines lun [] = []
rest_lines lun (starts ∷ rest) = rest_line lun starts ++ rest_lines (lun + 1) rest

-- a line of the time before which nothing ends, where that isn't the finish
abbrev pub below_line : ℕ → ℕ → List ℕ
below_line ends below = if nat_lt below ends then codes "below " ++ decimal below ++ codes "\n" else []

-- the lines of a schedule that ends at `ends`, where nothing ends before `below`
abbrev pub schedule_text : Schedule → ℕ → ℕ → List ℕ
schedule_text s ends below = codes "ONFIPLAN 1\n" ++ (codes "finish " ++ decimal ends) ++ codes "\n" ++ below_line ends below ++ rest_lines 0 s.rest ++ flat_map group_line s.groups

-- the answer that plans a problem: the schedule, and after it the text of its certificate
abbrev pub planned : Schedule → ℕ → ℕ → List ℕ → Answer
planned s ends below certificate = record { text = schedule_text s ends below ++ certificate; status = 0 }

-- what is refused for this reason
abbrev pub refused_for : List ℕ → Answer
refused_for reason = record { text = codes "refused " ++ (reason ++ codes "\n"); status = 2 }

-- .. with a place
abbrev pub refused_at : List ℕ → ℕ → Answer
refused_at reason place = record { text = codes "refused " ++ (reason ++ (codes " " ++ (decimal place ++ codes "\n"))); status = 2 }

-- the answer to a schedule that ends at `ends` and that nothing beats
abbrev pub accepted : ℕ → Answer
accepted ends = line (codes "accepted") ends 0

-- the answer to a schedule that is legal and ends at `ends`
abbrev pub legal_until : ℕ → Answer
legal_until ends = line (codes "legal") ends 0

-- the answer to a schedule that ends at `ends`, where nothing ends before `below`
abbrev pub within : ℕ → ℕ → Answer
within ends below = record { text = codes "within " ++ (decimal ends ++ (codes " " ++ (decimal below ++ codes "\n"))); status = 8 }

-- why the tokens of a certificate are refused; a lack of memory refuses nothing
abbrev pub cert_refused : CertFault → Answer
cert_refused cert.Illegal = refused_for (codes "1 Illegal")
cert_refused cert.Short = refused_for (codes "2 Short")
cert_refused (cert.Trailing place) = refused_at (codes "3 Trailing") place
cert_refused (cert.Width place) = refused_at (codes "4 Width") place
cert_refused (cert.BoundLow place) = refused_at (codes "5 BoundLow") place
cert_refused (cert.YieldNoFit place) = refused_at (codes "6 YieldNoFit") place
cert_refused (cert.YieldLoop place) = refused_at (codes "7 YieldLoop") place
cert_refused (cert.NotEnd place) = refused_at (codes "8 NotEnd") place
cert_refused cert.Memory = memory

-- why a text is no certificate
abbrev pub cert_text_refused : CertTextFault → Answer
cert_text_refused cert_text.Header = refused_for (codes "cert Header")
cert_text_refused (cert_text.BadToken place) = refused_at (codes "cert BadToken") place
cert_text_refused cert_text.TooLong = refused_for (codes "cert TooLong")
cert_text_refused cert_text.Memory = memory

-- why the text of a certificate is refused
abbrev pub text_refused : TextFault CertFault CertTextFault → Answer
text_refused (in_text.Text fault) = cert_text_refused fault
text_refused (in_text.Cert fault) = cert_refused fault
text_refused in_text.Option = refused_for (codes "cert Option")

-- the same of certificates that remember states, and of a schedule that ends before the time before which none is to end
abbrev pub known_refused : KnownFault → Answer
known_refused (known.Cert fault) = cert_refused fault
known_refused (known.Unknown place) = refused_at (codes "10 Unknown") place
known_refused (known.OtherLeft place) = refused_at (codes "11 OtherLeft") place
known_refused (known.Sooner place) = refused_at (codes "12 Sooner") place
known_refused (known.TooMany place) = refused_at (codes "13 TooMany") place
known_refused known.Above = refused_for (codes "below")

abbrev pub known_text_refused : TextFault KnownFault KnownTextFault → Answer
known_text_refused (in_text.Text in_known.Header) = refused_for (codes "cert Header")
known_text_refused (in_text.Text (in_known.BadToken place)) = refused_at (codes "cert BadToken") place
known_text_refused (in_text.Cert fault) = known_refused fault
known_text_refused in_text.Option = refused_for (codes "cert Option")

-- the answer where that many nodes were opened, and the search is not over
abbrev pub over : ℕ → Answer
over opened = line (codes "over") opened 6

-- the answer that says why
abbrev pub refused_by : Why → Answer
refused_by (why.Script refusal) = refused refusal
refused_by (why.Over opened) = over opened
refused_by (why.Line number) = refused_at (codes "plan") number
refused_by (why.Illegal breach) = refused_for (codes "1 Illegal")
refused_by (why.Finish said is) = refused_for (codes "finish")
refused_by (why.Below said is) = refused_for (codes "below")
refused_by (why.Cert fault) = text_refused fault
refused_by (why.Known fault) = known_text_refused fault
refused_by why.Memory = memory
