-- Logs that are legal: each line is the phase of a move of the problem as it then stands.
use Rattle.std.specs.Prelude.{◌≡◌, ℕ, suc, ◌<◌, ◌≤◌, not, List, [], ◌∷◌, ◌++◌, length, Option, Some, None, slice_get}
use Rattle.std.specs.List.{AllByRecursion as Each, filter}
use Rattle.onfi_request.specs.declared.want.Want.{Want}
use Rattle.onfi_group.specs.declared.rules.Rules.{Rules}
use Rattle.onfi_group.specs.Words.{Pairs}
use Rattle.onfi_group.specs.Group.{IsFirst, IsGroup, is_member, lun_of}
use Rattle.onfi_problem.specs.declared.lun_state.LunState.{LunState}
use Rattle.onfi_problem.specs.declared.lun_state.LunState.TheVariants.{Free, Running}
use Rattle.onfi_problem.specs.Moves.{Move, Next, Start, IsMove, earliest, placed}
use Rattle.onfi_problem.specs.Problem.{Problem, IsRunning, IsWant}
use Rattle.onfi_audit.specs.declared.line.Line.{Line}
use Rattle.onfi_audit.specs.declared.stage.LunStage.{LunStage}
use Rattle.onfi_audit.specs.declared.stage.LunStage.TheVariants as stage
use Rattle.onfi_audit.specs.Audit.{Audit, IsAccepted, IsPhaseOf, IsPlaced, MayCome, accepting, after_line}

-- the line is the phase of the move
abbrev pub Shows : Problem → Move → Line → Type 0
Shows p (Next lun) line = (group : List Want) × (next : ℕ) × (ready : ℕ) × (slice_get p.luns lun ≡ Some (Running group next ready)) × IsPhaseOf line group next × (lun ≡ line.lun)
Shows p (Start group) line = IsPhaseOf line group 0 × (lun_of group ≡ line.lun)

-- .. which may be made, and starts no sooner than it may
pub record IsLineOf (p : Problem) (move : Move) (line : Line) : Type 0 where
  pub is_move : IsMove p move
  pub on_time : earliest p move ≤ line.start
  pub shows : Shows p move line

-- each line is the phase of a move of the problem as it then stands, and that problem is left
abbrev pub Leads : Problem → List Line → Problem → Type 0
Leads p [] q = p ≡ q
Leads p (line ∷ lines) q = (move : Move) × IsLineOf p move line × Leads (placed p move line.start) lines q

-- the same problem with these wants
abbrev pub with_wants : Problem → List Want → Problem
with_wants p wants = record p { wants = wants }

-- What an audit may stand for

-- what a LUN does, if its open group gets these members more
abbrev pub state_at : LunStage → List Want → LunState
state_at (stage.Free since) later = Free since
state_at (stage.Running group next ready) later = Running group next ready
state_at (stage.Open group more ready) [] = Running group (length group) ready
state_at (stage.Open group more ready) (m ∷ later) = Running (group ++ m ∷ later) (length group) more

-- of all LUNs, each with members of its own
abbrev pub states_at : List LunStage → (ℕ → List Want) → List LunState
states_at [] later = []
states_at (x ∷ luns) later = state_at x (later 0) ∷ states_at luns (λ lun. later (suc lun))

-- the problem as it stands, if open groups get these members more
abbrev pub problem_at : Audit → (ℕ → List Want) → Problem
problem_at a later = record {
  timing = a.timing;
  rules = a.rules;
  bus_free = a.bus_free;
  luns = states_at a.luns later;
  wants = filter (λ w. not (is_member (later w.lun) w)) a.wants;
}

-- .. if they get none
abbrev pub closed : Audit → Problem
closed a = record { timing = a.timing; rules = a.rules; bus_free = a.bus_free; luns = states_at a.luns (λ lun. []); wants = a.wants }

-- members that an open group may get: with them it is a group, and each waits first on its block
abbrev pub Fits : Audit → Option LunStage → List Want → Type 0
Fits a (Some (stage.Open group more ready)) later = IsGroup a.rules (group ++ later) × Each (IsFirst a.wants) later
Fits a (Some (stage.Free since)) later = later ≡ []
Fits a (Some (stage.Running group next ready)) later = later ≡ []
Fits a None later = later ≡ []

abbrev pub IsChoice : Audit → (ℕ → List Want) → Type 0
IsChoice a later = (lun : ℕ) → Fits a (slice_get a.luns lun) (later lun)

-- What every audit keeps

abbrev pub IsStage : Rules → ℕ → LunStage → Type 0
IsStage rules lun (stage.Free since) = Unit {0}
IsStage rules lun (stage.Running group next ready) = IsRunning rules lun group next
IsStage rules lun (stage.Open group more ready) = IsGroup rules group × (lun_of group ≡ lun) × Each IsWant group × Each (IsPlaced rules) group

pub record IsAudit (a : Audit) : Type 0 where
  pub wants : Each IsWant a.wants
  pub placed : Each (IsPlaced a.rules) a.wants
  pub in_range : Each (λ w. w.lun < length a.luns) a.wants
  pub ids : Pairs (λ a b. a.id < b.id) a.wants
  pub numbers : Each (λ w. w.id < a.accepted) a.wants
  pub stages : (lun : ℕ) (x : LunStage) → slice_get a.luns lun ≡ Some x → IsStage a.rules lun x

-- What was given to an audit

-- a request, or a phase
pub data Entry : Type 0 where
  Accept : Want → Entry
  Phase : Line → Entry

-- each is accepted, and that is left
abbrev pub Audited : Audit → List Entry → Audit → Type 0
Audited a [] b = a ≡ b
Audited a (Accept w ∷ entries) b = IsAccepted a w × Audited (accepting a w) entries b
Audited a (Phase line ∷ entries) b = MayCome a line × Audited (after_line a line) entries b

abbrev pub wants_of : List Entry → List Want
wants_of [] = []
wants_of (Accept w ∷ entries) = w ∷ wants_of entries
wants_of (Phase line ∷ entries) = wants_of entries

abbrev pub lines_of : List Entry → List Line
lines_of [] = []
lines_of (Accept w ∷ entries) = lines_of entries
lines_of (Phase line ∷ entries) = line ∷ lines_of entries
