-- What a log has left, as a struct of the caller's says it.
use Rattle.std.specs.Prelude.{◌≡◌, ◌≤◌, ◌==◌, ℕ, if◌then◌else◌, List, [], ◌∷◌, length, map, replicate}
use Rattle.onfi_audit.specs.Audit.{Audit, resuming}
use Rattle.onfi_audit.specs.declared.stage.LunStage.{LunStage}
use Rattle.onfi_audit.specs.declared.stage.LunStage.TheVariants as stage
use Rattle.onfi_request.specs.declared.want.Want.{Want}
use Rattle.onfi_calls.specs.declared.audit.PlainAudit.{PlainAudit}
use Rattle.onfi_calls.specs.declared.audit.PlainStage.{PlainStage}
use Rattle.onfi_calls.specs.declared.channel.PlainLun.{PlainLun}
use Rattle.onfi_calls.specs.declared.status.Status.{Status}
use Rattle.onfi_calls.specs.Ran.{no_want}
use Rattle.onfi_calls.specs.Refused.{AreSaid, IsUnsaid}
use Rattle.onfi_calls.specs.Problem.{AreRules, IsTiming, luns_of, members_of, wants_of}
use Rattle.onfi_calls.specs.PlainSchedule.{filled, written_want}

-- a LUN that runs something: its group may get more members, or all of them are known
abbrev pub running_of : ℕ → PlainLun → PlainStage → LunStage
running_of bits lun s =
    if s.is_open == 0 then stage.Running (wants_of bits (members_of lun)) lun.next lun.since
    else stage.Open (wants_of bits (members_of lun)) s.more lun.since

abbrev pub stage_of : ℕ → PlainLun → PlainStage → LunStage
stage_of bits lun s = if lun.members == 0 then stage.Free lun.since else running_of bits lun s

-- the same of each LUN that is there
abbrev pub stages_of : ℕ → List PlainLun → List PlainStage → List LunStage
stages_of bits [] stages = []
stages_of bits (lun ∷ luns) [] = []
stages_of bits (lun ∷ luns) (s ∷ stages) = stage_of bits lun s ∷ stages_of bits luns stages

-- what the LUNs of an audit do
abbrev pub stages_in : PlainAudit → List LunStage
stages_in s = stages_of s.channel.rules.plane_bits (luns_of s.channel) s.stage

-- all numbers are in their ranges, and this is what is left; nothing waits
pub record IsAuditSaid (s : PlainAudit) (a : Audit) : Type 0 where
  pub said : AreSaid s.channel []
  pub timing : IsTiming s.channel a.timing
  pub rules : AreRules s.channel.rules a.rules
  pub is : a ≡ resuming a.timing a.rules s.channel.bus_free (stages_in s) s.accepted

-- why they aren't
abbrev pub IsNoAudit : PlainAudit → Status → Type 0
IsNoAudit s status = IsUnsaid s.channel [] status

-- What is kept

-- a LUN that is free from 0 on, of whose group nothing is open
abbrev pub no_lun : PlainLun
no_lun = record { since = 0; members = 0; next = 0; member = replicate 4 no_want }

abbrev pub no_stage : PlainStage
no_stage = record { more = 0; is_open = 0 }

-- a LUN that runs a group of these members
abbrev pub with_group : List Want → ℕ → ℕ → PlainLun
with_group group next since = record { since = since; members = length group; next = next; member = filled 4 no_want (map written_want group) }

abbrev pub written_lun : LunStage → PlainLun
written_lun (stage.Free since) = record no_lun { since = since }
written_lun (stage.Running group next ready) = with_group group next ready
written_lun (stage.Open group more ready) = with_group group 0 ready

abbrev pub written_stage : LunStage → PlainStage
written_stage (stage.Free since) = no_stage
written_stage (stage.Running group next ready) = no_stage
written_stage (stage.Open group more ready) = record { more = more; is_open = 1 }

-- what runs has one to four members
abbrev pub IsFit : LunStage → Type 0
IsFit (stage.Free since) = Unit {0}
IsFit (stage.Running group next ready) = (1 ≤ length group) × (length group ≤ 4)
IsFit (stage.Open group more ready) = (1 ≤ length group) × (length group ≤ 4)

-- the same channel, with this left
abbrev pub kept : PlainAudit → Audit → PlainAudit
kept s a = record {
  channel = record s.channel { bus_free = a.bus_free; lun_count = length a.luns; lun = filled 8 no_lun (map written_lun a.luns) };
  accepted = a.accepted;
  stage = filled 8 no_stage (map written_stage a.luns);
}
