-- A phase that is judged after what a struct of the caller's has left.
use Rattle.std.specs.Prelude.{◌≡◌, ℕ, ◌<◌, ◌≤◌, ◌^◌, ◌==◌, not, nat_lt, if◌then◌else◌, Bool, true, false, Option, Some, None, slice_get, length}
use Rattle.onfi_audit.specs.Audit.{Audit, IsAccepted, MayCome, MayComeLater, Tells, TellsFault, accepting, after_line, readied, request_of}
use Rattle.onfi_audit.specs.declared.audit.AcceptFault.{AcceptFault}
use Rattle.onfi_audit.specs.declared.audit.AcceptFault.TheVariants as accept
use Rattle.onfi_audit.specs.declared.breach.LogBreach.{LogBreach}
use Rattle.onfi_audit.specs.declared.line.Line.{Line}
use Rattle.onfi_audit.specs.declared.stage.LunStage.{LunStage}
use Rattle.onfi_audit.specs.declared.stage.LunStage.TheVariants as stage
use Rattle.onfi_request.specs.declared.want.Want.{Want}
use Rattle.onfi_timing.specs.Kinds.{operation_of}
use Rattle.onfi_calls.specs.declared.audit.PlainAudit.{PlainAudit}
use Rattle.onfi_calls.specs.declared.audit_phase.Verdict.{Verdict}
use Rattle.onfi_calls.specs.declared.audit_phase.Verdict.TheVariants as verdict
use Rattle.onfi_calls.specs.declared.log_broken.PlainLogBroken.{PlainLogBroken}
use Rattle.onfi_calls.specs.declared.phase.PlainPhase.{PlainPhase}
use Rattle.onfi_calls.specs.declared.status.Status.{Status}
use Rattle.onfi_calls.specs.declared.status.Status.TheVariants.{BadKind, BadLun, Clock, Illegal, Memory, NoLengths, TooMany}
use Rattle.onfi_calls.specs.Audit.{IsAuditSaid, IsNoAudit}
use Rattle.onfi_calls.specs.LogBroken.{unbroken, written_breach}
use Rattle.onfi_calls.specs.Problem.{kind_of, operation_in}
use Rattle.onfi_calls.specs.Status.{number_of}

-- neither a kind nor a read of some sectors
abbrev pub is_bad_kind : ℕ → Bool
is_bad_kind kind = if nat_lt 2 kind then not (operation_in kind == 0) else false

abbrev pub line_of : PlainPhase → Line
line_of p = record { start = p.start; lun = p.lun; operation = operation_of (kind_of p.kind); is_post = p.is_post; block = p.block; page = p.page }

-- The request that a command begins

abbrev pub begins_on : Option LunStage → Bool
begins_on None = false
begins_on (Some (stage.Free since)) = true
begins_on (Some (stage.Running group next ready)) = false
begins_on (Some (stage.Open group more ready)) = true

-- the phase is a command, and its LUN is free, or its group may get more members
abbrev pub begins : Audit → PlainPhase → Bool
begins a p = if p.is_post then false else begins_on (slice_get a.luns p.lun)

abbrev pub begun_by : Audit → PlainPhase → Want
begun_by a p = request_of a (kind_of p.kind) p.lun p.block p.page

-- where it begins one that is accepted
abbrev pub BroughtIf : Bool → Audit → PlainPhase → Audit → Type 0
BroughtIf true a p b = IsAccepted a (begun_by a p) × (b ≡ accepting a (begun_by a p))
BroughtIf false a p b = b ≡ a

abbrev pub Brought : Audit → PlainPhase → Audit → Type 0
Brought a p b = BroughtIf (begins a p) a p b

abbrev pub accept_status : AcceptFault → Status
accept_status accept.NoLun = BadLun
accept_status accept.ErasePage = BadLun
accept_status accept.NoLengths = NoLengths
accept_status accept.Full = TooMany
accept_status accept.Memory = Memory

-- .. or why it isn't
pub record IsUnbrought (a : Audit) (p : PlainPhase) (status : Status) : Type 0 where
  pub begins : begins a p ≡ true
  pub fault : AcceptFault
  pub tells : TellsFault a (kind_of p.kind) p.lun p.page fault
  pub status_is : status ≡ accept_status fault

-- What is judged

-- a line that ran, because it is legal or only came too soon, or that didn't
abbrev pub IsVerdict : Audit → Line → Audit → Verdict → Type 0
IsVerdict a line b verdict.Legal = MayCome a line × (b ≡ after_line a line)
IsVerdict a line b (verdict.TooSoon breach) = Tells a line breach × MayComeLater a line × (b ≡ after_line a line)
IsVerdict a line b (verdict.Broken breach) = Tells a line breach × (MayComeLater a line → ⊥) × (b ≡ a)

-- what is left and the phase with the request that it begins
pub record IsAsked (s : PlainAudit) (p : PlainPhase) (b : Audit) : Type 0 where
  pub audit : Audit
  pub said : IsAuditSaid s audit
  pub brought : Brought audit p b

-- why it isn't judged: the first of these
pub data IsUnjudged (s : PlainAudit) (p : PlainPhase) (status : Status) : Type 0 where
  has_no_audit : IsNoAudit s status → IsUnjudged s p status
  is_no_kind : (a : Audit) → IsAuditSaid s a → is_bad_kind p.kind ≡ true → status ≡ BadKind → IsUnjudged s p status
  is_too_late : (a : Audit) → IsAuditSaid s a → is_bad_kind p.kind ≡ false → 2 ^ 62 ≤ p.start → status ≡ Clock → IsUnjudged s p status
  is_no_request : (a : Audit) → IsAuditSaid s a → is_bad_kind p.kind ≡ false → p.start < 2 ^ 62 → IsUnbrought a p status → IsUnjudged s p status

-- the phase is legal, and what is left once it ran is kept; or it breaks a condition, which is told, and what is left once it ran is
-- kept where it only came too soon; or a number says why it isn't judged, and all is as it was
pub data GivesPhase (old new : PlainAudit) (p : PlainPhase) (told_old told_new : PlainLogBroken) (result : ℕ) : Type 0 where
  is_legal : (b : Audit) → IsAsked old p b → MayCome b (line_of p) → IsAuditSaid new (after_line b (line_of p)) → told_new ≡ unbroken → result ≡ 0
      → GivesPhase old new p told_old told_new result
  is_too_soon : (b : Audit) → IsAsked old p b → (breach : LogBreach) → Tells b (line_of p) breach → MayComeLater b (line_of p)
      → IsAuditSaid new (after_line b (line_of p)) → told_new ≡ written_breach breach → result ≡ number_of Illegal
      → GivesPhase old new p told_old told_new result
  is_broken : (b : Audit) → IsAsked old p b → (breach : LogBreach) → Tells b (line_of p) breach → (MayComeLater b (line_of p) → ⊥) → new ≡ old
      → told_new ≡ written_breach breach → result ≡ number_of Illegal
      → GivesPhase old new p told_old told_new result
  is_unjudged : (status : Status) → IsUnjudged old p status → new ≡ old → told_new ≡ told_old → result ≡ number_of status
      → GivesPhase old new p told_old told_new result

-- A LUN that is ready

-- what is left once it was
pub record IsReadied (s : PlainAudit) (lun moment : ℕ) (b : Audit) : Type 0 where
  pub audit : Audit
  pub said : IsAuditSaid s audit
  pub there : lun < length audit.luns
  pub is : b ≡ readied audit lun moment

-- why there is none
pub data IsUnready (s : PlainAudit) (lun : ℕ) (status : Status) : Type 0 where
  isnt_said : IsNoAudit s status → IsUnready s lun status
  isnt_there : (a : Audit) → IsAuditSaid s a → length a.luns ≤ lun → status ≡ BadLun → IsUnready s lun status

-- what the LUN has next may come from then on, if that is sooner; or a number says why nothing is done, and all is as it was
pub data GivesReady (old new : PlainAudit) (lun moment result : ℕ) : Type 0 where
  is_ready : (b : Audit) → IsReadied old lun moment b → IsAuditSaid new b → result ≡ 0 → GivesReady old new lun moment result
  isnt_ready : (status : Status) → IsUnready old lun status → new ≡ old → result ≡ number_of status → GivesReady old new lun moment result
