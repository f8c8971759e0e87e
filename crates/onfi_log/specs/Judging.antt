-- Logs that are judged line by line.
use Rattle.std.specs.Prelude.{◌≡◌, ℕ, ◌+◌, ◌-◌, ◌*◌, [], length, ◌==◌, ◌⊎◌, max, nat_le, nat_lt, ◌≤◌, if◌then◌else◌, Bool, true, false, List, Option, Some, None, unwrap_or, slice_get, slice_index_or, slice_set, replicate}
use Rattle.std.specs.List.{AllByRecursion as Each}
use Rattle.onfi_timing.specs.declared.kind.Kind.{Kind}
use Rattle.onfi_timing.specs.declared.kind.Kind.TheVariants as kind
use Rattle.onfi_timing.specs.declared.operation.Operation.{Operation}
use Rattle.onfi_timing.specs.declared.operation.Operation.TheVariants.{Read, Program, Erase}
use Rattle.onfi_request.specs.declared.want.Want.{Want}
use Rattle.onfi_audit.specs.Audit.{Audit, IsAlone, IsRegained, IsStray, MayComeLater, Tells, accepting, after_line, early_by, first_at, readied, request_of, with_stage}
use Rattle.onfi_audit.specs.declared.line.Line.{Line}
use Rattle.onfi_audit.specs.declared.breach.LogBreach.{LogBreach}
use Rattle.onfi_audit.specs.declared.breach.LogBreach.TheVariants.{BlockOrder, BusNotFree, NoLun, OtherPhase, UnknownRequest}
use Rattle.onfi_audit.specs.declared.stage.LunStage.{LunStage}
use Rattle.onfi_audit.specs.declared.stage.LunStage.TheVariants as stage
use Rattle.onfi_log.specs.declared.breach.LineBreach.{LineBreach}
use Rattle.onfi_log.specs.declared.breach.LineBreach.TheVariants.{Condition, NotClosed, OtherBytes, OtherEnd}
use Rattle.onfi_log.specs.declared.bytes.Bytes.{Bytes}
use Rattle.onfi_log.specs.declared.bytes.Bytes.TheVariants.{Last, More, Other}
use Rattle.onfi_log.specs.Bytes.{fits}
use Rattle.onfi_log.specs.declared.entry.LogEntry.{LogEntry}
use Rattle.onfi_log.specs.declared.entry.LogEntry.TheVariants.{Phase, Ready, Comment}
use Rattle.onfi_log.specs.declared.entry.Sign.{Sign}
use Rattle.onfi_log.specs.declared.entry.Sign.TheVariants.{Status, Edge}
use Rattle.onfi_log.specs.declared.line.LogLine.{LogLine}
use Rattle.onfi_log.specs.declared.manner.Manner.{Manner}
use Rattle.onfi_log.specs.declared.manner.Statuses.{Statuses}
use Rattle.onfi_log.specs.declared.manner.Statuses.TheVariants.{EachPlane, OneForAll}
use Rattle.onfi_log.specs.declared.requests.Requests.{Requests}
use Rattle.onfi_log.specs.declared.requests.Requests.TheVariants.{Accepted, Mentioned}

-- a log as far as it was judged: which requests it is of, how much too soon a phase may come, which statuses it has, what it has left,
-- of each block one more than the greatest number that a request had which began there, 0 where none had one, of each LUN the bytes of
-- the command that began a request last, and by how much a phase that ran came too soon at most
pub record Judged : Type 0 where
  pub requests : Requests
  pub tolerance : ℕ
  pub statuses : Statuses
  pub audit : Audit
  pub greatest : List ℕ
  pub closers : List (Option Bytes)
  pub early : ℕ

-- Requests that the log mentions

abbrev pub begins_on : Option LunStage → Bool
begins_on None = false
begins_on (Some (stage.Free since)) = true
begins_on (Some (stage.Running group next ready)) = false
begins_on (Some (stage.Open group more ready)) = true

-- the line is a command that begins a request: its LUN is free, or its group may get members more
abbrev pub begins : Audit → Line → Bool
begins a line = if line.is_post then false else begins_on (slice_get a.luns line.lun)

-- what a request asks for whose command does this: a read of all of a page
abbrev pub kind_of : Operation → Kind
kind_of Read = kind.Read
kind_of Program = kind.Program
kind_of Erase = kind.Erase

-- an erase names page 0
abbrev pub takes_page : Operation → ℕ → Bool
takes_page Read page = true
takes_page Program page = true
takes_page Erase page = page == 0

-- the line brings its request, if it begins one
abbrev pub brings_where : Requests → Bool → Line → Bool
brings_where Accepted begins line = false
brings_where Mentioned begins line = if begins then takes_page line.operation line.page else false

abbrev pub brings_by : Requests → Audit → Line → Bool
brings_by requests a line = brings_where requests (begins a line) line

-- what is left, with the request that the line brings
abbrev pub brought_by : Requests → Audit → Line → Audit
brought_by requests a line = if brings_by requests a line then accepting a (request_of a (kind_of line.operation) line.lun line.block line.page) else a

abbrev pub brings : Judged → Line → Bool
brings j line = brings_by j.requests j.audit line

abbrev pub with_brought : Judged → Line → Audit
with_brought j line = brought_by j.requests j.audit line

-- Numbers of requests

-- where the number of a block stands
abbrev pub block_at : Line → ℕ
block_at line = line.lun * 65536 + line.block

-- a command can't be of request `number`: the first that waits on its block has another
abbrev pub misnamed_among : Line → ℕ → Option Want → Option LineBreach
misnamed_among line number None = None
misnamed_among line number (Some w) =
    if w.id == number then None
    else (if nat_lt w.id number then Some (Condition (BlockOrder w.id number))
    else Some (Condition (UnknownRequest line.lun line.block)))

-- .. or one that comes later began on its block
abbrev pub misnamed_after : Line → ℕ → ℕ → Option LineBreach
misnamed_after line number greatest =
    if nat_le greatest number then None
    else (if greatest == number + 1 then Some (Condition (UnknownRequest line.lun line.block))
    else Some (Condition (BlockOrder number (greatest - 1))))

abbrev pub misnamed_by : Requests → Judged → Line → ℕ → Option LineBreach
misnamed_by Accepted j line number = misnamed_among line number (first_at j.audit.wants line.lun line.block)
misnamed_by Mentioned j line number = misnamed_after line number (slice_index_or j.greatest (block_at line) 0)

abbrev pub misnamed_as : Judged → Line → Option ℕ → Option LineBreach
misnamed_as j line None = None
misnamed_as j line (Some number) = misnamed_by j.requests j line number

-- why the command that begins a request can't be of the one that the line names
abbrev pub misnamed : Judged → LogLine → Option LineBreach
misnamed j line = if begins j.audit line.phase then misnamed_as j line.phase line.request else None

abbrev pub noted_as : List ℕ → ℕ → Option ℕ → List ℕ
noted_as greatest at None = greatest
noted_as greatest at (Some number) = slice_set greatest at (max (slice_index_or greatest at 0) (number + 1))

-- the greatest numbers, with that of the request that the line begins
abbrev pub noted : Bool → List ℕ → LogLine → List ℕ
noted begins greatest line = if begins then noted_as greatest (block_at line.phase) line.request else greatest

-- Closers of commands

-- a post is the next phase of a group of which that is the first member
abbrev pub not_next : Line → Option Want → Option LineBreach
not_next line None = None
not_next line (Some first) = Some (Condition (OtherPhase line.lun true first.block first.page))

-- a command follows the last one of a group, or a post one after which another command has to come
abbrev pub misclosed_by : Line → List Want → Option Bytes → Option LineBreach
misclosed_by line group None = None
misclosed_by line group (Some Other) = None
misclosed_by line group (Some Last) = if line.is_post then None else not_next line (slice_get group 0)
misclosed_by line group (Some More) = if line.is_post then Some (NotClosed line.lun) else None

abbrev pub misclosed_on : Line → Option Bytes → Option LunStage → Option LineBreach
misclosed_on line closer None = None
misclosed_on line closer (Some (stage.Free since)) = None
misclosed_on line closer (Some (stage.Running group next ready)) = None
misclosed_on line closer (Some (stage.Open group more ready)) = misclosed_by line group closer

-- why the line can't come after the closer of its LUN's last command
abbrev pub misclosed : Judged → Line → Option LineBreach
misclosed j line = misclosed_on line (slice_index_or j.closers line.lun None) (slice_get j.audit.luns line.lun)

abbrev pub or_else : Option LineBreach → Option LineBreach → Option LineBreach
or_else None other = other
or_else (Some b) other = Some b

-- what is amiss with the line beside its phase: the closer before it, or its request's number
abbrev pub amiss : Judged → LogLine → Option LineBreach
amiss j line = or_else (misclosed j line.phase) (misnamed j line)

-- the closers, with that of the command that begins a request
abbrev pub closed : Bool → List (Option Bytes) → LogLine → List (Option Bytes)
closed begins closers line = if begins then slice_set closers line.phase.lun line.bytes else closers

-- END, and the bytes of opener and closer

-- END is there and isn't when the phase ends
abbrev pub other_end : Option ℕ → ℕ → Option LineBreach
other_end None ends = None
other_end (Some end) ends = if end == ends then None else Some (OtherEnd end ends)

-- whether a command is the last of its group, where all members of that are known
abbrev pub last_known_on : Option LunStage → Option Bool
last_known_on None = None
last_known_on (Some (stage.Free since)) = None
last_known_on (Some (stage.Running group next ready)) = Some (next + 1 == length group)
last_known_on (Some (stage.Open group more ready)) = None

abbrev pub last_known : Audit → Line → Option Bool
last_known a line = if line.is_post then None else last_known_on (slice_get a.luns line.lun)

-- the bytes are there and aren't those of the phase
abbrev pub other_bytes : Line → Option Bool → Option Bytes → Option LineBreach
other_bytes line known None = None
other_bytes line known (Some bytes) = if fits known bytes then None else Some (OtherBytes line.operation line.is_post (unwrap_or known true))

-- what of a phase that ends then isn't as the line has it
abbrev pub misfit_by : Option Bool → ℕ → LogLine → Option LineBreach
misfit_by known ends line = or_else (other_end line.end ends) (other_bytes line.phase known line.bytes)

-- .. once it ran
abbrev pub misfit : Judged → LogLine → Option LineBreach
misfit j line = misfit_by (last_known j.audit line.phase) (after_line (with_brought j line.phase) line.phase).bus_free line

-- A line

-- what the line says is noted, if it begins a request
abbrev pub with_notes : Judged → Bool → LogLine → Judged
with_notes j begins line = record j { greatest = noted begins j.greatest line; closers = closed begins j.closers line }

-- the state in which a line is judged
abbrev pub bringing : Judged → Line → Judged
bringing j line = record j { audit = with_brought j line }

-- a phase ran; how much too soon it came is kept
abbrev pub gone_by : Judged → Line → Judged
gone_by j line = record j { audit = after_line j.audit line; early = max j.early (early_by j.audit line) }

-- the log once the line's phase ran
abbrev pub ran : Judged → LogLine → Judged
ran j line = with_notes (gone_by (bringing j line.phase) line.phase) (begins j.audit line.phase) line

-- a phase may come, and comes too soon by no more than that
pub record ComesBy (tolerance : ℕ) (a : Audit) (line : Line) : Type 0 where
  pub may : MayComeLater a line
  pub in_time : early_by a line ≤ tolerance

-- the line breaks no condition
pub record IsRight (j : Judged) (line : LogLine) : Type 0 where
  pub named : amiss j line ≡ None
  pub comes : ComesBy j.tolerance (with_brought j line.phase) line.phase
  pub fits : misfit j line ≡ None

-- a phase breaks a condition of logs
abbrev pub TellsOf : Audit → Line → LineBreach → Type 0
TellsOf a line (Condition b) = Tells a line b
TellsOf a line (NotClosed lun) = ⊥
TellsOf a line (OtherEnd end ends) = ⊥
TellsOf a line (OtherBytes operation is_post is_last) = ⊥

-- a phase breaks this one, where that is amiss with it, and it may come so much too soon
abbrev pub BreaksBy : Option LineBreach → ℕ → Audit → Line → LineBreach → Type 0
BreaksBy amiss tolerance a line b = (amiss ≡ Some b) ⊎ ((amiss ≡ None) × TellsOf a line b × (ComesBy tolerance a line → ⊥))

-- a phase may come, but not as the line has it
pub record IsMisfit (j : Judged) (line : LogLine) (b : LineBreach) : Type 0 where
  pub named : amiss j line ≡ None
  pub comes : ComesBy j.tolerance (with_brought j line.phase) line.phase
  pub misfit : misfit j line ≡ Some b

abbrev pub Breaks : Judged → LogLine → LineBreach → Type 0
Breaks j line b = BreaksBy (amiss j line) j.tolerance (with_brought j line.phase) line.phase b ⊎ IsMisfit j line b

-- whether the line's phase ran, as it does where it may come, if not so soon; and the log then
abbrev pub RanBy : Bool → Judged → LogLine → Judged → Type 0
RanBy true j line k = MayComeLater (with_brought j line.phase) line.phase × (k ≡ ran j line)
RanBy false j line k = (MayComeLater (with_brought j line.phase) line.phase → ⊥) × (k ≡ j)

-- the log with that LUN doing this
abbrev pub staged : Judged → ℕ → LunStage → Judged
staged j lun x = record j { audit = with_stage j.audit lun x }

-- a line that may not come even later runs where phases are taken as missing before it, if it then may come
pub record RunsPast (j : Judged) (line : LogLine) (k : Judged) : Type 0 where
  pub before : LunStage
  pub there : slice_get j.audit.luns line.phase.lun ≡ Some before
  pub stage : LunStage
  pub regained : IsRegained before line.phase stage
  pub runs : RanBy true (staged j line.phase.lun stage) line k ⊎ (RanBy false (staged j line.phase.lun stage) line (staged j line.phase.lun stage) × (k ≡ j))

abbrev pub Regains : Judged → LogLine → Judged → Type 0
Regains j line k = RunsPast j line k ⊎ (IsStray (slice_get j.audit.luns line.phase.lun) line.phase × (k ≡ j))

-- after a line that breaks a condition its phase counts as run where it may come, if not so soon; else where it may come once phases are
-- taken as missing before it; and else as left out
abbrev pub GoesOnBy : Judged → LogLine → Judged → Type 0
GoesOnBy j line k = RanBy true j line k ⊎ (RanBy false j line j × Regains j line k)

-- the line breaks that condition, or none, and that is the log then
abbrev pub Steps : Judged → LogLine → Option LineBreach → Judged → Type 0
Steps j line None k = IsRight j line × (k ≡ ran j line)
Steps j line (Some b) k = Breaks j line b × GoesOnBy j line k

-- One status for a group of several planes

-- a status is that of all of its group where a log has one for each group: what the line is judged after
abbrev pub FacesBy : Statuses → Judged → Line → Judged → Type 0
FacesBy EachPlane j line h = h ≡ j
FacesBy OneForAll j line h =
    ((x : LunStage) × IsAlone (slice_get j.audit.luns line.lun) line x × (h ≡ staged j line.lun x))
    ⊎ (((x : LunStage) → IsAlone (slice_get j.audit.luns line.lun) line x → ⊥) × (h ≡ j))

abbrev pub Faces : Judged → Line → Judged → Type 0
Faces j line h = FacesBy j.statuses j line h

-- A LUN that is reported ready

-- a status is read over the bus, so not while a phase is on it
abbrev pub is_over_bus : Sign → ℕ → ℕ → Bool
is_over_bus Status moment bus_free = nat_lt moment bus_free
is_over_bus Edge moment bus_free = false

-- why it can't have been reported ready then: it isn't there, or a phase is on the bus
abbrev pub misreported : Audit → ℕ → ℕ → Sign → Option LineBreach
misreported a lun moment sign =
    if nat_le (length a.luns) lun then Some (Condition (NoLun lun))
    else (if is_over_bus sign moment a.bus_free then Some (Condition (BusNotFree moment a.bus_free))
    else None)

-- the log after a report that breaks this condition, or none
abbrev pub after_report : Judged → ℕ → ℕ → Option LineBreach → Judged
after_report j lun moment None = record j { audit = readied j.audit lun moment }
after_report j lun moment (Some b) = j

-- what a line says breaks that condition, or none, and that is the log then
abbrev pub Takes : Judged → LogEntry → Option LineBreach → Judged → Type 0
Takes j (Phase line) b k = (h : Judged) × Faces j line.phase h × Steps h line b k
Takes j (Ready lun moment sign) b k = (b ≡ misreported j.audit lun moment sign) × (k ≡ after_report j lun moment b)
Takes j Comment b k = (b ≡ None) × (k ≡ j)

-- A log of which nothing was judged

-- no request has a number yet; of the requests that a log mentions each block has a place for one
abbrev pub IsFresh : Requests → List ℕ → Type 0
IsFresh Accepted greatest = greatest ≡ []
IsFresh Mentioned greatest = (length greatest ≡ 8 * 65536) × Each (λ n. n ≡ 0) greatest

-- .. and no command has a closer
abbrev pub unclosed : List (Option Bytes)
unclosed = replicate 8 None

-- .. and no phase came too soon
abbrev pub beginning : Requests → Manner → Audit → List ℕ → Judged
beginning requests manner audit greatest =
    record { requests = requests; tolerance = manner.tolerance; statuses = manner.statuses; audit = audit; greatest = greatest; closers = unclosed; early = 0 }
