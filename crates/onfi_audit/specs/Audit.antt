-- What a log has left, the phase that may come next, and what it leaves.
use Rattle.std.specs.Prelude.{◌≡◌, ℕ, ◌+◌, ◌^◌, ◌<◌, ◌≤◌, ◌==◌, ◌≢◌, ◌*◌, ◌-◌, ◌⊎◌, max, min, nat_lt, not, if◌then◌else◌, Bool, true, false, List, [], ◌∷◌, ◌++◌, length, map, Option, Some, None, slice_get, slice_set}
use Rattle.std.specs.List.{AllByRecursion as Each, filter}
use Rattle.onfi_addr.specs.Rows.{plane_at}
use Rattle.onfi_timing.specs.declared.kind.Kind.{Kind}
use Rattle.onfi_timing.specs.declared.kind.Kind.TheVariants.{Erase}
use Rattle.onfi_timing.specs.declared.timing.Timing.{Timing}
use Rattle.onfi_timing.specs.Kinds.{IsStated, operation_of}
use Rattle.onfi_timing.specs.Phases.{phase_length}
use Rattle.onfi_timing.specs.declared.operation.Operation.TheVariants.{Read}
use Rattle.onfi_request.specs.declared.want.Want.{Want}
use Rattle.onfi_group.specs.declared.rules.Rules.{Rules}
use Rattle.onfi_group.specs.Words.{Has}
use Rattle.onfi_group.specs.Group.{IsGroup, group_spans}
use Rattle.onfi_problem.specs.declared.lun_state.LunState.{LunState}
use Rattle.onfi_problem.specs.declared.lun_state.LunState.TheVariants.{Free, Running}
use Rattle.onfi_problem.specs.Moves.{lun_after, without}
use Rattle.onfi_problem.specs.Problem.{Problem, IsWant}
use Rattle.onfi_flight.specs.Flight.{member_of}
use Rattle.onfi_audit.specs.declared.audit.AcceptFault.{AcceptFault}
use Rattle.onfi_audit.specs.declared.audit.AcceptFault.TheVariants as accept
use Rattle.onfi_audit.specs.declared.audit.judging.Coming.{Coming}
use Rattle.onfi_audit.specs.declared.audit.judging.Coming.TheVariants as coming
use Rattle.onfi_audit.specs.declared.line.Line.{Line}
use Rattle.onfi_audit.specs.declared.breach.LogBreach.{LogBreach}
use Rattle.onfi_audit.specs.declared.breach.LogBreach.TheVariants as breach
use Rattle.onfi_audit.specs.declared.stage.LunStage.{LunStage}
use Rattle.onfi_audit.specs.declared.stage.LunStage.TheVariants as stage

-- the channel as it stands, the requests that wait in acceptance order, and the number of the next one
pub record Audit : Type 0 where
  pub timing : Timing
  pub rules : Rules
  pub bus_free : ℕ
  pub luns : List LunStage
  pub wants : List Want
  pub accepted : ℕ

-- a LUN with all members of its group known
abbrev pub stage_of : LunState → LunStage
stage_of (Free since) = stage.Free since
stage_of (Running group next ready) = stage.Running group next ready

-- nothing waits yet
abbrev pub opening : Problem → Audit
opening p = record { timing = p.timing; rules = p.rules; bus_free = p.bus_free; luns = map stage_of p.luns; wants = []; accepted = 0 }

-- where a log stood after which nothing waits
abbrev pub resuming : Timing → Rules → ℕ → List LunStage → ℕ → Audit
resuming timing rules bus_free luns accepted = record { timing = timing; rules = rules; bus_free = bus_free; luns = luns; wants = []; accepted = accepted }

-- Requests

-- the plane of a block is its low bits
abbrev pub IsPlaced : Rules → Want → Type 0
IsPlaced rules w = w.plane ≡ plane_at rules.plane_bits w.block

-- the next request, of that kind and place
abbrev pub request_of : Audit → Kind → ℕ → ℕ → ℕ → Want
request_of a kind lun block page = record { id = a.accepted; kind = kind; lun = lun; plane = plane_at a.rules.plane_bits block; block = block; page = page }

-- it may be accepted
pub record IsAccepted (a : Audit) (w : Want) : Type 0 where
  pub number : w.id ≡ a.accepted
  pub want : IsWant w
  pub lun : w.lun < length a.luns
  pub placed : IsPlaced a.rules w
  pub stated : IsStated a.timing w.kind

-- the audit with one request more
abbrev pub accepting : Audit → Want → Audit
accepting a w = record a { wants = a.wants ++ w ∷ []; accepted = a.accepted + 1 }

-- one request more than before
abbrev pub IsAccepting : Audit → Type 0
IsAccepting a = (before : Audit) × (w : Want) × (a ≡ accepting before w)

abbrev pub TellsFault : Audit → Kind → ℕ → ℕ → AcceptFault → Type 0
TellsFault a kind lun page accept.NoLun = length a.luns ≤ lun
TellsFault a kind lun page accept.ErasePage = (kind ≡ Erase) × (page ≢ 0)
TellsFault a kind lun page accept.NoLengths = IsStated a.timing kind → ⊥
TellsFault a kind lun page accept.Full = a.accepted + 1 ≡ 2 ^ 64
TellsFault a kind lun page accept.Memory = Unit {0}

-- The phase that may come next

-- the line names the request
pub record Names (line : Line) (w : Want) : Type 0 where
  pub operation : operation_of w.kind ≡ line.operation
  pub lun : w.lun ≡ line.lun
  pub block : w.block ≡ line.block
  pub page : w.page ≡ line.page

abbrev pub is_at : ℕ → ℕ → Want → Bool
is_at lun block w = if w.lun == lun then w.block == block else false

-- the request that waits first on the block
abbrev pub first_at : List Want → ℕ → ℕ → Option Want
first_at wants lun block = slice_get (filter (is_at lun block) wants) 0

-- the line is that phase of a group
pub record IsPhaseOf (line : Line) (group : List Want) (phase : ℕ) : Type 0 where
  pub member : Want
  pub there : member_of group phase ≡ Some member
  pub named : Names line member
  pub part : line.is_post ≡ not (nat_lt phase (length group))

-- a command of a request that waits first on its block, which joins those members
pub record Joins (a : Audit) (line : Line) (members : List Want) (from : ℕ) : Type 0 where
  pub command : line.is_post ≡ false
  pub want : Want
  pub first : first_at a.wants line.lun line.block ≡ Some want
  pub named : Names line want
  pub group : IsGroup a.rules (members ++ want ∷ [])
  pub on_time : max a.bus_free from ≤ line.start

-- the phase that a group has next
pub record GoesOn (a : Audit) (line : Line) (group : List Want) (phase ready : ℕ) : Type 0 where
  pub is : IsPhaseOf line group phase
  pub on_time : max a.bus_free ready ≤ line.start

abbrev pub MayComeOn : Audit → Line → Option LunStage → Type 0
MayComeOn a line None = ⊥
MayComeOn a line (Some (stage.Free since)) = Joins a line [] since
MayComeOn a line (Some (stage.Running group next ready)) = GoesOn a line group next ready
MayComeOn a line (Some (stage.Open group more ready)) = Joins a line group more ⊎ GoesOn a line group (length group) ready

-- the line may come next
abbrev pub MayCome : Audit → Line → Type 0
MayCome a line = MayComeOn a line (slice_get a.luns line.lun)

-- the same line, which starts at that moment
abbrev pub started : ℕ → Line → Line
started moment line = record line { start = moment }

-- .. may come, if not so soon
abbrev pub MayComeLater : Audit → Line → Type 0
MayComeLater a line = (moment : ℕ) × (moment < 2 ^ 62) × MayCome a (started moment line)

-- from when on the LUN may have the line's phase, if it may at all
abbrev pub from_on : Option LunStage → Line → ℕ
from_on None line = 0
from_on (Some (stage.Free since)) line = since
from_on (Some (stage.Running group next ready)) line = ready
from_on (Some (stage.Open group more ready)) line = if line.is_post then ready else more

-- .. and the bus too
abbrev pub earliest : Audit → Line → ℕ
earliest a line = max a.bus_free (from_on (slice_get a.luns line.lun) line)

-- by how much it comes too soon
abbrev pub early_by : Audit → Line → ℕ
early_by a line = earliest a line - line.start

-- What it leaves

-- that phase of the group ran; what held the bus for longer goes on holding it
abbrev pub gone_on : Audit → Line → List Want → ℕ → Audit
gone_on a line group phase =
    let ended = line.start + phase_length (group_spans a.timing group) (length group) phase in
    record a { bus_free = max a.bus_free ended; luns = slice_set a.luns line.lun (stage_of (lun_after a.timing group phase ended)) }

-- the last of these members had its command, which ended then
abbrev pub opened : Timing → List Want → ℕ → LunStage
opened timing group ended = stage.Open group (ended + (group_spans timing group).gap) (ended + (group_spans timing group).array)

-- the request had its command, with which the group has these members
abbrev pub joined_with : Audit → Line → List Want → Want → Audit
joined_with a line group w =
    let ended = line.start + (group_spans a.timing group).cmd in
    record a { bus_free = max a.bus_free ended; luns = slice_set a.luns line.lun (opened a.timing group ended); wants = without (w ∷ []) a.wants }

-- the request joined those members
abbrev pub joined_by : Audit → Line → List Want → Option Want → Audit
joined_by a line members None = a
joined_by a line members (Some w) = joined_with a line (members ++ w ∷ []) w

abbrev pub joined : Audit → Line → List Want → Audit
joined a line members = joined_by a line members (first_at a.wants line.lun line.block)

abbrev pub after_on : Audit → Line → Option LunStage → Audit
after_on a line None = a
after_on a line (Some (stage.Free since)) = joined a line []
after_on a line (Some (stage.Running group next ready)) = gone_on a line group next
after_on a line (Some (stage.Open group more ready)) = if line.is_post then gone_on a line group (length group) else joined a line group

-- the audit once the line's phase ran
abbrev pub after_line : Audit → Line → Audit
after_line a line = after_on a line (slice_get a.luns line.lun)

-- How a line that may come is kept

-- the audit once it ran
abbrev pub left_by : Audit → Line → Coming → Audit
left_by a line (coming.Joins group w) = joined_with a line group w
left_by a line (coming.GoesOn group phase) = gone_on a line group phase

abbrev pub IsWithin : Coming → Type 0
IsWithin (coming.Joins group w) = Unit {0}
IsWithin (coming.GoesOn group phase) = phase < 2 * length group

-- the line may come, as this, whenever it starts, and starts in time
pub record IsComing (a : Audit) (line : Line) (c : Coming) : Type 0 where
  pub may : MayCome a line
  pub after : (moment : ℕ) → left_by a (started moment line) c ≡ after_line a (started moment line)
  pub there : line.lun < length a.luns
  pub within : IsWithin c
  pub time : line.start < 2 ^ 62

-- as that phase of a group
abbrev pub IsGoing : Audit → Line → List Want → ℕ → ℕ → Coming → Type 0
IsGoing a line group phase ready c = GoesOn a line group phase ready × (c ≡ coming.GoesOn group phase) × (phase < 2 * length group)

-- as a command of a request that joins those members
abbrev pub IsJoined : Audit → Line → List Want → ℕ → Coming → Type 0
IsJoined a line members from c = (j : Joins a line members from) × (c ≡ coming.Joins (members ++ j.want ∷ []) j.want)

-- the request that a command is of
abbrev pub IsRequest : Audit → Line → Want → Type 0
IsRequest a line w = (first_at a.wants line.lun line.block ≡ Some w) × Names line w

-- the LUN has these members so far, and may have a command from then on
abbrev pub JoinStands : Audit → Line → List Want → ℕ → Type 0
JoinStands a line members from =
    ((members ≡ []) × (slice_get a.luns line.lun ≡ Some (stage.Free from)))
    ⊎ ((1 ≤ length members) × (ready : ℕ) × (slice_get a.luns line.lun ≡ Some (stage.Open members from ready)))

-- what is reported of a command that comes too soon
abbrev pub too_soon : Line → List Want → ℕ → LogBreach
too_soon line [] from = breach.LunNotFree line.lun line.start from
too_soon line (m ∷ ms) from = breach.NotReady line.lun line.start from

-- A LUN that is ready sooner

abbrev pub readied_stage : ℕ → LunStage → LunStage
readied_stage moment (stage.Free since) = stage.Free since
readied_stage moment (stage.Running group next ready) = stage.Running group next (min ready moment)
readied_stage moment (stage.Open group more ready) = stage.Open group (min more moment) (min ready moment)

abbrev pub readied_on : Audit → ℕ → ℕ → Option LunStage → Audit
readied_on a lun moment None = a
readied_on a lun moment (Some x) = record a { luns = slice_set a.luns lun (readied_stage moment x) }

-- the LUN is reported ready at that moment: what its group has next may come from then on
abbrev pub readied : Audit → ℕ → ℕ → Audit
readied a lun moment = readied_on a lun moment (slice_get a.luns lun)

-- A LUN whose phases a log lacks

-- that LUN does this
abbrev pub with_stage : Audit → ℕ → LunStage → Audit
with_stage a lun x = record a { luns = slice_set a.luns lun x }

abbrev pub IsGroupOn : Option LunStage → List Want → Type 0
IsGroupOn None group = ⊥
IsGroupOn (Some (stage.Free since)) group = ⊥
IsGroupOn (Some (stage.Running g next ready)) group = g ≡ group
IsGroupOn (Some (stage.Open g more ready)) group = g ≡ group

-- the line names the member at that place of the group that the LUN runs
pub record IsMemberOn (o : Option LunStage) (line : Line) (group : List Want) (at : ℕ) : Type 0 where
  pub runs : IsGroupOn o group
  pub member : Want
  pub there : slice_get group at ≡ Some member
  pub named : Names line member

-- what a LUN does where phases before the line are missing: before a command it is free, before a post of a member that post is next
abbrev pub IsRegained : LunStage → Line → LunStage → Type 0
IsRegained x line y =
    ((line.is_post ≡ false) × (y ≡ stage.Free 0))
    ⊎ ((line.is_post ≡ true) × (group : List Want) × (at : ℕ) × IsMemberOn (Some x) line group at × (y ≡ stage.Running group (length group + at) 0))

-- the line is a post of nothing that the LUN runs, or of a LUN that isn't there
abbrev pub IsStray : Option LunStage → Line → Type 0
IsStray o line = (o ≡ None) ⊎ ((line.is_post ≡ true) × ((group : List Want) → IsGroupOn o group → Each (λ w. Names line w → ⊥) group))

-- One status for a group of several planes

-- the LUN has given all commands of a group, and has its posts next from then on
abbrev pub AwaitsPosts : Option LunStage → List Want → ℕ → Type 0
AwaitsPosts None group ready = ⊥
AwaitsPosts (Some (stage.Free since)) group ready = ⊥
AwaitsPosts (Some (stage.Running g next r)) group ready = (g ≡ group) × (length group ≤ next) × (r ≡ ready)
AwaitsPosts (Some (stage.Open g more r)) group ready = (g ≡ group) × (r ≡ ready)

-- the line is the status of a member of the group that the LUN runs, and the LUN is as with that member alone
pub record IsAlone (o : Option LunStage) (line : Line) (y : LunStage) : Type 0 where
  pub post : line.is_post ≡ true
  pub writes : line.operation ≢ Read
  pub group : List Want
  pub ready : ℕ
  pub awaits : AwaitsPosts o group ready
  pub at : ℕ
  pub member : Want
  pub there : slice_get group at ≡ Some member
  pub named : Names line member
  pub is : y ≡ stage.Running (member ∷ []) 1 ready

-- What is reported of a line that may not come

-- the group that the LUN runs, the phase that it has next where all its members are known, and from when on that may start
abbrev pub HasNext : Audit → ℕ → List Want → ℕ → ℕ → Type 0
HasNext a lun group phase ready =
    (slice_get a.luns lun ≡ Some (stage.Running group phase ready))
    ⊎ ((phase ≡ length group) × (more : ℕ) × (slice_get a.luns lun ≡ Some (stage.Open group more ready)))

-- a group that the LUN runs has another phase next, which is of that block and page
pub record HasOther (a : Audit) (line : Line) (is_post : Bool) (block page : ℕ) : Type 0 where
  pub group : List Want
  pub phase : ℕ
  pub ready : ℕ
  pub next : HasNext a line.lun group phase ready
  pub member : Want
  pub there : member_of group phase ≡ Some member
  pub part : is_post ≡ not (nat_lt phase (length group))
  pub block_is : member.block ≡ block
  pub page_is : member.page ≡ page
  pub other : IsPhaseOf line group phase → ⊥

-- a request that waits and that the line names
abbrev pub IsNamed : Audit → Line → ℕ → Type 0
IsNamed a line number = (w : Want) × Has a.wants w × Names line w × (w.id ≡ number)

-- the request that waits first on the line's block
abbrev pub IsFirstNumber : Audit → Line → ℕ → Type 0
IsFirstNumber a line number = (w : Want) × (first_at a.wants line.lun line.block ≡ Some w) × (w.id ≡ number)

-- the request that waits first on the line's block makes no group with the members of an open one
pub record IsApart (a : Audit) (line : Line) (first request : ℕ) : Type 0 where
  pub members : List Want
  pub more : ℕ
  pub ready : ℕ
  pub stands : slice_get a.luns line.lun ≡ Some (stage.Open members more ready)
  pub one : Want
  pub begins : slice_get members 0 ≡ Some one
  pub told : one.id ≡ first
  pub want : Want
  pub waits : first_at a.wants line.lun line.block ≡ Some want
  pub named : Names line want
  pub told_want : want.id ≡ request
  pub apart : IsGroup a.rules (members ++ want ∷ []) → ⊥

-- from then on the phase that the line is of may start on the LUN
abbrev pub IsReadyFrom : Audit → Line → ℕ → Type 0
IsReadyFrom a line ready =
    ((group : List Want) × (phase : ℕ) × HasNext a line.lun group phase ready × IsPhaseOf line group phase)
    ⊎ ((line.is_post ≡ false) × (group : List Want) × (later : ℕ) × (slice_get a.luns line.lun ≡ Some (stage.Open group ready later)))

-- a post on a LUN that is free, or that has no phase left
abbrev pub RunsNothing : Audit → Line → Type 0
RunsNothing a line =
    ((line.is_post ≡ true) × (since : ℕ) × (slice_get a.luns line.lun ≡ Some (stage.Free since)))
    ⊎ ((group : List Want) × (phase : ℕ) × (ready : ℕ) × HasNext a line.lun group phase ready × (member_of group phase ≡ None))

abbrev pub Tells : Audit → Line → LogBreach → Type 0
Tells a line breach.TooLate = 2 ^ 62 ≤ line.start
Tells a line (breach.NoLun lun) = (lun ≡ line.lun) × (slice_get a.luns line.lun ≡ None)
Tells a line (breach.NothingRuns lun) = (lun ≡ line.lun) × RunsNothing a line
Tells a line (breach.OtherPhase lun is_post block page) = (lun ≡ line.lun) × HasOther a line is_post block page
Tells a line (breach.UnknownRequest lun block) = (lun ≡ line.lun) × (block ≡ line.block) × (line.is_post ≡ false) × Each (λ w. Names line w → ⊥) a.wants
Tells a line (breach.BlockOrder earlier later) = (line.is_post ≡ false) × IsFirstNumber a line earlier × IsNamed a line later × ((w : Want) → first_at a.wants line.lun line.block ≡ Some w → Names line w → ⊥)
Tells a line (breach.NotGrouped first request) = IsApart a line first request
Tells a line (breach.BusNotFree start bus_free) = (start ≡ line.start) × (bus_free ≡ a.bus_free) × (start < bus_free)
Tells a line (breach.LunNotFree lun start since) = (lun ≡ line.lun) × (start ≡ line.start) × (slice_get a.luns line.lun ≡ Some (stage.Free since)) × (start < since)
Tells a line (breach.NotReady lun start ready) = (lun ≡ line.lun) × (start ≡ line.start) × IsReadyFrom a line ready × (start < ready)
