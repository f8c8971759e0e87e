-- Logs that are followed line by line, and what is noted of their groups.
use Rattle.std.specs.Prelude.{ℕ, zero, suc, ◌+◌, ◌==◌, if◌then◌else◌, Bool, true, false, List, [], ◌∷◌, ◌++◌, length, Option, Some, None, slice_get, slice_set, slice_index_or}
use Rattle.onfi_request.specs.declared.want.Want.{Want}
use Rattle.onfi_audit.specs.Audit.{Audit, after_line}
use Rattle.onfi_audit.specs.declared.line.Line.{Line}
use Rattle.onfi_audit.specs.declared.stage.LunStage.{LunStage}
use Rattle.onfi_audit.specs.declared.stage.LunStage.TheVariants as stage
use Rattle.onfi_log.specs.declared.requests.Requests.{Requests}
use Rattle.onfi_log.specs.Judging.{brought_by}

-- a log as far as it was followed: what it has left, which requests it is of, of each LUN the number of the group that began on it
-- last, and the number of the next one. What LUNs run as the log begins have the numbers of these LUNs, and its own groups those from 8 on
pub record Followed : Type 0 where
  pub audit : Audit
  pub requests : Requests
  pub on : List ℕ
  pub begun : ℕ

abbrev pub unfollowed : Audit → Requests → Followed
unfollowed a requests = record { audit = a; requests = requests; on = 0 ∷ 1 ∷ 2 ∷ 3 ∷ 4 ∷ 5 ∷ 6 ∷ 7 ∷ []; begun = 8 }

abbrev pub is_free : Option LunStage → Bool
is_free None = false
is_free (Some (stage.Free since)) = true
is_free (Some (stage.Running group next ready)) = false
is_free (Some (stage.Open group more ready)) = false

-- the line is a command that begins a group
abbrev pub begins_group : Audit → Line → Bool
begins_group a line = if line.is_post then false else is_free (slice_get a.luns line.lun)

abbrev pub with_group : Bool → ℕ → Followed → Followed
with_group false lun f = f
with_group true lun f = record f { on = slice_set f.on lun f.begun; begun = f.begun + 1 }

-- the line's phase ran, with the request that it brings
abbrev pub followed : Followed → Line → Followed
followed f line = with_group (begins_group f.audit line) line.lun (record f { audit = after_line (brought_by f.requests f.audit line) line })

-- Groups

-- the members of a group as the log has their commands, whether its last phase came, and when its last phase so far ends
pub record Noted : Type 0 where
  pub members : List Want
  pub is_over : Bool
  pub end : ℕ

abbrev pub fresh : Noted
fresh = record { members = []; is_over = false; end = 0 }

-- that many of which nothing is noted
abbrev pub all_fresh : ℕ → List Noted
all_fresh zero = []
all_fresh (suc n) = all_fresh n ++ fresh ∷ []

-- a phase came that ends then, after which its LUN does that
abbrev pub with_phase : ℕ → Option LunStage → Noted → Noted
with_phase end None n = record n { end = end }
with_phase end (Some (stage.Free since)) n = record n { end = end; is_over = true }
with_phase end (Some (stage.Running group next ready)) n = record n { end = end }
with_phase end (Some (stage.Open group more ready)) n = record n { end = end; members = group }

-- with a place for the next group
abbrev pub with_next : List Noted → ℕ → List Noted
with_next notes number = if number == length notes then notes ++ fresh ∷ [] else notes

abbrev pub noted_at : List Noted → ℕ → ℕ → Option LunStage → List Noted
noted_at notes number end x = slice_set notes number (with_phase end x (slice_index_or notes number fresh))

-- a phase of that LUN came last
abbrev pub noted : List Noted → Followed → ℕ → List Noted
noted notes f lun =
    let number = slice_index_or f.on lun 0 in
    noted_at (with_next notes number) number f.audit.bus_free (slice_get f.audit.luns lun)

-- the groups once these lines came too
abbrev pub notes_from : List Noted → Followed → List Line → List Noted
notes_from notes f [] = notes
notes_from notes f (line ∷ lines) = notes_from (noted notes (followed f line) line.lun) (followed f line) lines

-- the groups of a log by their numbers
abbrev pub notes_of : Followed → List Line → List Noted
notes_of f lines = notes_from (all_fresh 8) f lines
