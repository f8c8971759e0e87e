-- What is left of a plan, the phase of it that is due, and what that leaves.
use Rattle.std.specs.Prelude.{◌≡◌, ℕ, ◌+◌, ◌*◌, ◌-◌, ◌<◌, ◌≤◌, ◌⊎◌, ◌^◌, max, min, nat_lt, if◌then◌else◌, List, [], length, drop, remove, replicate, Option, Some, None, slice_get, slice_index_or, slice_set}
use Rattle.onfi_timing.specs.declared.timing.Timing.{Timing}
use Rattle.onfi_request.specs.declared.want.Want.{Want}
use Rattle.onfi_group.specs.declared.rules.Rules.{Rules}
use Rattle.onfi_group.specs.Group.{IsStartable, lun_of}
use Rattle.onfi_problem.specs.declared.lun_state.LunState.{LunState}
use Rattle.onfi_problem.specs.declared.lun_state.LunState.TheVariants.{Free, Running}
use Rattle.onfi_problem.specs.Moves.{Move, Next, Start, IsDone, IsMove, earliest, free_from, move_lun, placed, without}
use Rattle.onfi_problem.specs.Problem.{Problem, IsProblem}
use Rattle.onfi_schedule.specs.Laws.{Begins, ComesNext}
use Rattle.onfi_schedule.specs.Schedule.{Placed, Schedule, Legal}
use Rattle.onfi_flight.specs.declared.due.Due.{Due}
use Rattle.onfi_flight.specs.declared.flight.Next.{Next as NextIs}
use Rattle.onfi_flight.specs.declared.flight.Next.TheVariants as next
use Rattle.onfi_flight.specs.declared.turn.Turn.{Turn}
use Rattle.onfi_flight.specs.declared.turn.Turn.TheVariants as turn
use Rattle.onfi_flight.specs.Times.{all_starts, free_at, lag, later, latest_start}
use Rattle.onfi_flight.specs.Turns.{IsTurn, NoneStart, starts_in}

-- the problem as it stands, and the starts that are left
pub record Flight : Type 0 where
  pub now : Problem
  pub left : Schedule

-- what is left is legal, for a problem of at most eight wants
pub record IsFlight (f : Flight) : Type 0 where
  pub problem : IsProblem f.now
  pub few : length f.now.wants ≤ 8
  pub legal : Legal f.now f.left

-- the bus is free from then on and that many LUNs from 0 on, nothing waits and nothing is planned
abbrev pub idle : Timing → Rules → ℕ → ℕ → Flight
idle timing rules bus_free luns = record {
  now = record { timing = timing; rules = rules; bus_free = bus_free; luns = replicate luns (Free 0); wants = [] };
  left = record { rest = replicate luns []; groups = [] };
}

-- The phase that is due

-- it is of the move's group, and has that number there
abbrev pub IsPhase : Problem → Move → List Want → ℕ → Type 0
IsPhase p (Next lun) group phase = (ready : ℕ) × (slice_get p.luns lun ≡ Some (Running group phase ready))
IsPhase p (Start members) group phase = (members ≡ group) × (phase ≡ 0)

-- the member of a group that its phase is of: commands first, then posts
abbrev pub member_of : List Want → ℕ → Option Want
member_of group phase = slice_get group (if nat_lt phase (length group) then phase else phase - length group)

-- where its start stands
abbrev pub turn_by : ℕ → ℕ → Option ℕ → Turn
turn_by start lun None = turn.Next (record { at = lun; time = start })
turn_by start lun (Some place) = turn.First (record { at = place; time = start })

abbrev pub turn_of : Due → Turn
turn_of due = turn_by due.start due.lun due.place

abbrev pub move_by : ℕ → List Want → Option ℕ → Move
move_by lun group None = Next lun
move_by lun group (Some place) = Start group

abbrev pub move_of : Due → Move
move_of due = move_by due.lun due.group due.place

-- the starts that it is the first of
abbrev pub starts_of : Schedule → ℕ → Option ℕ → List ℕ
starts_of s lun None = slice_index_or s.rest lun []
starts_of s lun (Some place) = slice_index_or (starts_in s.groups) place []

-- the groups that don't start, once the one at the place did
abbrev pub groups_left : Option ℕ → List Placed → List Placed
groups_left None groups = groups
groups_left (Some place) groups = remove groups place

-- the wants that wait, once the group at the place started
abbrev pub wants_behind : Option ℕ → List Want → List Want → List Want
wants_behind None group wants = wants
wants_behind (Some place) group wants = without group wants

-- the starts that it leaves
abbrev pub left_behind : Schedule → Due → Schedule
left_behind s due = record { rest = slice_set s.rest due.lun (drop 1 (starts_of s due.lun due.place)); groups = groups_left due.place s.groups }

-- the undone phase of least start; it is a move of the problem as it stands, and no earlier than it may be
pub record IsDue (f : Flight) (due : Due) : Type 0 where
  pub turn : IsTurn f.left.rest f.left.groups (turn_of due)
  pub begins : Begins f.left (move_of due) due.start (left_behind f.left due)
  pub phase : IsPhase f.now (move_of due) due.group due.phase
  pub lun : move_lun (move_of due) ≡ due.lun
  pub there : due.lun < length f.left.rest
  pub within : due.phase < 2 * length due.group
  pub is_move : IsMove f.now (move_of due)
  pub on_time : earliest f.now (move_of due) ≤ due.start
  pub time : due.start < 2 ^ 63
  pub next : Legal f.now f.left → ComesNext f.now f.left (move_of due) due.start (left_behind f.left due)

-- no start is left
abbrev pub IsOver : Schedule → Type 0
IsOver s = NoneStart s.rest × NoneStart (starts_in s.groups)

-- nothing runs on the LUN
abbrev pub IsFree : LunState → Type 0
IsFree (Free since) = Unit {0}
IsFree (Running group next ready) = ⊥

-- the phase of a turn may run: it is one of a group that runs and has it left, or the first of a group that may start on a LUN
-- of the schedule, and bus and LUN are free by its start
abbrev pub MayRun : Flight → Turn → Type 0
MayRun f (turn.Next s) =
    (group : List Want) × (phase : ℕ) × (ready : ℕ) × (slice_get f.now.luns s.at ≡ Some (Running group phase ready))
    × (max f.now.bus_free ready ≤ s.time) × (phase < 2 * length group)
MayRun f (turn.First s) =
    (g : Placed) × (since : ℕ) × (slice_get f.left.groups s.at ≡ Some g) × (slice_get f.now.luns (lun_of g.members) ≡ Some (Free since))
    × (max f.now.bus_free since ≤ s.time) × IsStartable f.now.rules f.now.wants g.members × (lun_of g.members < length f.left.rest)

-- no start is left, though something waits or runs; or the phase of least start may not run
abbrev pub IsStuck : Flight → Type 0
IsStuck f = (IsOver f.left × (IsDone f.now → ⊥)) ⊎ ((t : Turn) × IsTurn f.left.rest f.left.groups t × (MayRun f t → ⊥))

-- what comes next: the due phase; or nothing is left to do; or what is left can't go on
abbrev pub Tells : Flight → NextIs → Type 0
Tells f (next.Due due) = IsDue f due
Tells f next.Done = IsOver f.left × IsDone f.now
Tells f next.Illegal = IsStuck f

-- What happens

-- the due phase ran as planned
abbrev pub after_due : Flight → Due → Flight
after_due f due = record { now = placed f.now (move_of due) due.start; left = left_behind f.left due }

-- it ran from then on, and what is left starts later by as much
abbrev pub after_late : Flight → Due → ℕ → Flight
after_late f due started = record { now = placed f.now (move_of due) started; left = later (started - due.start) (left_behind f.left due) }

-- the latest that comes of it
abbrev pub latest_late : Flight → Due → ℕ → ℕ
latest_late f due started = max started (latest_start (all_starts f.left) + (started - due.start))

-- by how much what is left must be later so that nothing starts before the moment
abbrev pub wait_lag : ℕ → Flight → ℕ
wait_lag moment f = lag moment (all_starts f.left)

-- the bus waited until then
abbrev pub waited : ℕ → Flight → Flight
waited moment f = record { now = free_at f.now (max f.now.bus_free moment); left = later (wait_lag moment f) f.left }

-- the latest that a wait brings about: the moment, or the last start
abbrev pub latest_waited : ℕ → Flight → ℕ
latest_waited moment f = max moment (latest_start (all_starts f.left) + wait_lag moment f)

-- from when on a LUN may go on that is ready then
abbrev pub ready_of : ℕ → ℕ → Flight → ℕ
ready_of lun moment f = min (free_from (slice_get f.now.luns lun)) moment

abbrev pub ready_by : ℕ → LunState → LunState
ready_by moment (Free since) = Free since
ready_by moment (Running group next ready) = Running group next (min ready moment)

abbrev pub luns_ready_by : ℕ → ℕ → Option LunState → List LunState → List LunState
luns_ready_by moment lun None luns = luns
luns_ready_by moment lun (Some x) luns = slice_set luns lun (ready_by moment x)

-- the group that runs on the LUN may go on from then
abbrev pub readied : ℕ → ℕ → Flight → Flight
readied lun moment f = record f { now = record f.now { luns = luns_ready_by moment lun (slice_get f.now.luns lun) f.now.luns } }
