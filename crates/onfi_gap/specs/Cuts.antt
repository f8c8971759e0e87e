-- The pieces into which a log is cut.
use Rattle.std.specs.Prelude.{ℕ, ◌+◌, ◌==◌, max, nat_le, nat_lt, if◌then◌else◌, Bool, false, List, [], ◌∷◌, ◌++◌, length, take, drop, Option, Some, None, slice_get, slice_index_or}
use Rattle.std.specs.List.{flat_map}
use Rattle.onfi_request.specs.declared.want.Want.{Want}
use Rattle.onfi_problem.specs.declared.lun_state.LunState.{LunState}
use Rattle.onfi_problem.specs.declared.lun_state.LunState.TheVariants.{Free, Running}
use Rattle.onfi_audit.specs.Audit.{Audit}
use Rattle.onfi_audit.specs.declared.line.Line.{Line}
use Rattle.onfi_audit.specs.declared.stage.LunStage.{LunStage}
use Rattle.onfi_audit.specs.declared.stage.LunStage.TheVariants as stage
use Rattle.onfi_log.specs.declared.requests.Requests.{Requests}
use Rattle.onfi_log.specs.Laws.{phases_of}
use Rattle.onfi_log.specs.Parts.{parts}
use Rattle.onfi_gap.specs.Following.{Followed, Noted, begins_group, followed, notes_of, unfollowed}

-- a piece as the log has it: the line of its first command, what the channel was before that line, its requests in the order in
-- which their groups began, and when the last of them ended
pub record Cut : Type 0 where
  pub line : ℕ
  pub bus_free : ℕ
  pub luns : List LunState
  pub wants : List Want
  pub end : ℕ

-- Its requests: those of its groups that the log ends

abbrev pub own_members : Noted → List Want
own_members n = if n.is_over then n.members else []

abbrev pub own_end : Noted → ℕ
own_end n = if n.is_over then n.end else 0

abbrev pub members_of : List Noted → List Want
members_of groups = flat_map own_members groups

abbrev pub end_of : List Noted → ℕ
end_of [] = 0
end_of (n ∷ groups) = max (own_end n) (end_of groups)

-- What LUNs do before it

-- the group is over by that moment
abbrev pub ends_by : ℕ → Option Noted → Bool
ends_by end None = false
ends_by end (Some n) = if n.is_over then nat_le n.end end else false

abbrev pub members_in : Option Noted → List Want
members_in None = []
members_in (Some n) = n.members

-- an open group, with the members that it gets in the log
abbrev pub open_state : List Want → ℕ → ℕ → List Want → LunState
open_state group more ready members = if nat_lt (length group) (length members) then Running members (length group) more else Running group (length group) ready

-- a group that runs on is the piece's where it is over by the piece's end; else it stays out, and its LUN is free from that end on
abbrev pub state_of : ℕ → Option Noted → LunStage → LunState
state_of end n (stage.Free since) = Free since
state_of end n (stage.Running group next ready) = if ends_by end n then Running group next ready else Free end
state_of end n (stage.Open group more ready) = if ends_by end n then open_state group more ready (members_in n) else Free end

-- .. of the LUNs from number `lun` on
abbrev pub states_from : List Noted → List ℕ → ℕ → ℕ → List LunStage → List LunState
states_from notes on end lun [] = []
states_from notes on end lun (x ∷ luns) = state_of end (slice_get notes (slice_index_or on lun 0)) x ∷ states_from notes on end (lun + 1) luns

-- the piece of these groups, the first of which that line begins, which comes next
abbrev pub cut_at : List Noted → Followed → List Noted → ℕ → Cut
cut_at notes f groups line = record {
  line = line;
  bus_free = f.audit.bus_free;
  luns = states_from notes f.on (end_of groups) 0 f.audit.luns;
  wants = members_of groups;
  end = end_of groups;
}

-- All pieces

-- how many groups from the first on have at most eight requests, after that many
abbrev pub few_groups : ℕ → List Noted → ℕ
few_groups count [] = 0
few_groups count (n ∷ groups) = if nat_le (count + length n.members) 8 then 1 + few_groups (count + length n.members) groups else 0

-- the groups of the piece that begins with that number
abbrev pub groups_from : List Noted → ℕ → List Noted
groups_from notes from = take (few_groups 0 (drop from notes)) (drop from notes)

-- the line begins the group of that number
abbrev pub begins_at : Followed → ℕ → Line → Bool
begins_at f from line = if begins_group f.audit line then f.begun == from else false

-- the pieces of these lines, the first of which has that number, from the group of number `from` on
abbrev pub cuts_from : List Noted → Followed → ℕ → ℕ → List Line → List Cut
cuts_from notes f from line [] = []
cuts_from notes f from line (l ∷ lines) =
    if begins_at f from l
    then cut_at notes f (groups_from notes from) line ∷ cuts_from notes (followed f l) (from + length (groups_from notes from)) (line + 1) lines
    else cuts_from notes (followed f l) from (line + 1) lines

abbrev pub cuts_in : Followed → List Line → List Cut
cuts_in f lines = cuts_from (notes_of f lines) f 8 1 lines

-- the pieces of a log of that opening
abbrev pub cuts_of : Audit → Requests → List ℕ → List Cut
cuts_of a requests text = cuts_in (unfollowed a requests) (phases_of (parts 10 text))
