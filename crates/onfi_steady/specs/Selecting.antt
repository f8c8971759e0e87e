-- Of what LUNs give the phase that goes first, found from what is kept of each.
use Rattle.std.specs.Prelude.{◌≡◌, ◌⊎◌, ℕ, ◌+◌, ◌-◌, ◌<◌, ◌≤◌, ◌==◌, max, nat_lt, not, if◌then◌else◌, Bool, true, false, List, [], length, Option, Some, None, IfSome, slice_get}
use Rattle.onfi_timing.specs.declared.timing.Timing.{Timing}
use Rattle.onfi_request.specs.declared.want.Want.{Want}
use Rattle.onfi_group.specs.declared.rules.Rules.{Rules}
use Rattle.onfi_problem.specs.declared.lun_state.LunState.{LunState}
use Rattle.onfi_problem.specs.Problem.{Problem}
use Rattle.onfi_problem.specs.Moves.{Move}
use Rattle.onfi_steady.specs.declared.begin.Begin.{Begin}
use Rattle.onfi_steady.specs.declared.first.Choice.{Choice}
use Rattle.onfi_steady.specs.declared.kind_spans.KindSpans.{KindSpans}
use Rattle.onfi_steady.specs.declared.lun_books.LunBooks.{LunBooks}
use Rattle.onfi_steady.specs.declared.next.NextPhase.{NextPhase}
use Rattle.onfi_steady.specs.declared.run.Run.{Run}
use Rattle.onfi_steady.specs.declared.slot.Slot.{Slot}
use Rattle.onfi_steady.specs.declared.turn.Turn.{Turn}
use Rattle.onfi_steady.specs.Order.{GoesBefore, is_less}
use Rattle.onfi_steady.specs.Ranks.{phase_numbers}
use Rattle.onfi_steady.specs.Ranks.{numbers_of}
use Rattle.onfi_steady.specs.Waiting.{Books}
use Rattle.onfi_steady.specs.Offer.{on_lun}
use Rattle.onfi_steady.specs.Next.{IsNextPhase, given_move, move_by}
use Rattle.onfi_steady.specs.Kept.{NoneBelow, earlier, is_kept}
use Rattle.onfi_steady.specs.Slots.{AreSpansOf, begins, has_number, slots_in, waiters_in, wants_in}
use Rattle.onfi_steady.specs.LunBooks.{IsLun, begin_of, state_in, states_in}

-- what LUNs keep is that of what waits for them
pub record AreLuns (timing : Timing) (books : Books) (luns : List LunBooks) : Type 0 where
  pub each : (at : ℕ) → IfSome (slice_get luns at) (IsLun timing books.rules)
  pub waiting : (at : ℕ) → IfSome (slice_get luns at) (λ l. waiters_in (slots_in l.line) ≡ on_lun at books.waiting)

-- a LUN begins with what the one at that place of a list does, if there is one, and nothing waits for it
pub record IsBegunAt (spans : KindSpans) (luns : List LunState) (at : ℕ) (l : LunBooks) : Type 0 where
  pub state : IfSome (slice_get luns at) (λ state. state_in l.run ≡ state)
  pub line : slots_in l.line ≡ []
  pub lun : (timing : Timing) (rules : Rules) → AreSpansOf timing spans → IsLun timing rules l

-- the next phase of what a LUN runs keeps the bus
abbrev pub keeps_in : ℕ → Run → Bool
keeps_in from r = if nat_lt r.next r.members then (if nat_lt (from + r.gap) r.since then false else true) else false

abbrev pub kept_in : ℕ → Option ℕ → Run → Option ℕ
kept_in from known r = if keeps_in from r then Some (earlier known (max from r.since)) else known

-- a LUN has work, where a program's array takes so long
abbrev pub works_in : ℕ → ℕ → LunBooks → Bool
works_in from array l =
    if l.run.members == 0 then l.offer.reads else (if nat_lt l.run.next l.run.members then not l.run.erases else not (nat_lt (from + array) l.run.since))

-- how soon the phase goes of what a LUN runs, and of what begins
abbrev pub going_turn : ℕ → Option ℕ → Run → Turn
going_turn from kept r = record { kept = if keeps_in from r then false else is_kept kept (max from r.since) r.span; start = max from r.since; rank = r.rank; smaller = 4; oldest = r.oldest }

abbrev pub begin_turn : ℕ → Option ℕ → ℕ → Begin → Turn
begin_turn from kept since b = record { kept = is_kept kept (max from since) b.cmd; start = max from since; rank = b.rank; smaller = 4 - b.members; oldest = b.oldest }

abbrev pub has_newest : Option ℕ → List Slot → Bool
has_newest None members = false
has_newest (Some id) members = has_number members id

-- an erase goes in place of a group that waits for mates
abbrev pub gives_erase : Option ℕ → Bool → LunBooks → Bool
gives_erase newest work l = if l.offer.is_open then (if work then has_newest newest (begins l.offer.group) else false) else false

abbrev pub begin_choice : ℕ → Option ℕ → ℕ → ℕ → Bool → Begin → Option Choice
begin_choice from kept since at erase b = if b.members == 0 then None else Some (record { turn = begin_turn from kept since b; lun = at; erase = erase })

-- the phase that a LUN gives
abbrev pub given_in : ℕ → Option ℕ → Option ℕ → Bool → ℕ → LunBooks → Option Choice
given_in from kept newest work at l =
    if l.run.members == 0 then begin_choice from kept l.run.since at (gives_erase newest work l) (begin_of l.offer (gives_erase newest work l))
    else Some (record { turn = going_turn from kept l.run; lun = at; erase = false })

-- what a LUN holds that runs nothing
abbrev pub held_in : ℕ → ℕ → LunBooks → Option Choice
held_in from at l = if l.run.members == 0 then begin_choice from None l.run.since at false l.offer.group else None

-- those that begin; none where the LUN goes on
abbrev pub begun_on : Bool → LunBooks → List Want
begun_on erase l = if l.run.members == 0 then wants_in (begins (begin_of l.offer erase)) else []

abbrev pub begun_by : Bool → Option LunBooks → List Want
begun_by erase None = []
begun_by erase (Some l) = begun_on erase l

abbrev pub begun_at : List LunBooks → ℕ → Bool → List Want
begun_at luns lun erase = begun_by erase (slice_get luns lun)

-- it goes on, or something begins
abbrev pub can_run : Bool → LunBooks → Bool
can_run erase l = if l.run.members == 0 then not ((begin_of l.offer erase).members == 0) else true

abbrev pub can_run_by : Bool → Option LunBooks → Bool
can_run_by erase None = false
can_run_by erase (Some l) = can_run erase l

abbrev pub can_run_at : List LunBooks → ℕ → Bool → Bool
can_run_at luns lun erase = can_run_by erase (slice_get luns lun)

-- the phase that was chosen is one of a LUN that is there
pub record IsChoice (luns : List LunBooks) (c : Choice) : Type 0 where
  pub there : c.lun < length luns
  pub runs : can_run_at luns c.lun c.erase ≡ true

-- the move that the LUN gives, with its numbers
pub record IsMoveOf (books : Books) (p : Problem) (at : ℕ) (members : List Want) (turn : Turn) : Type 0 where
  pub given : given_move books p at ≡ Some (move_by at members)
  pub numbers : numbers_of turn ≡ phase_numbers p (move_by at members)

-- of the moves that the LUNs below that number give, the one that goes first
pub record IsFirstMove (books : Books) (p : Problem) (below at : ℕ) (members : List Want) (turn : Turn) : Type 0 where
  pub is : IsMoveOf books p at members turn
  pub there : at < below
  pub first : (lun : ℕ) (n : Move) → lun < below → given_move books p lun ≡ Some n
      → (n ≡ move_by at members) ⊎ GoesBefore (phase_numbers p) p (move_by at members) n

abbrev pub IsFirstChoice : Books → Problem → List LunBooks → ℕ → Option Choice → Type 0
IsFirstChoice books p luns below None = (lun : ℕ) → lun < below → given_move books p lun ≡ None
IsFirstChoice books p luns below (Some c) = IsFirstMove books p below c.lun (begun_at luns c.lun c.erase) c.turn

abbrev pub choice_with : Option Choice → Choice → Choice
choice_with None other = other
choice_with (Some known) other = if is_less (numbers_of other.turn) (numbers_of known.turn) then other else known

abbrev pub first_choice : Option Choice → Option Choice → Option Choice
first_choice known None = known
first_choice known (Some other) = Some (choice_with known other)

-- the phase that was chosen
pub record IsPhaseOf (luns : List LunBooks) (c : Choice) (phase : NextPhase) : Type 0 where
  pub lun : phase.lun ≡ c.lun
  pub members : phase.members.items ≡ begun_at luns c.lun c.erase
  pub start : phase.start ≡ c.turn.start

-- it is the one that is next
pub record IsNextChoice (books : Books) (p : Problem) (luns : List LunBooks) (c : Choice) : Type 0 where
  pub next : (phase : NextPhase) → IsPhaseOf luns c phase → IsNextPhase books p phase

-- what the lowest LUN holds that has any
pub record IsHeldChoice (books : Books) (luns : List LunBooks) (from : ℕ) (c : Choice) : Type 0 where
  pub lun : LunBooks
  pub there : slice_get luns c.lun ≡ Some lun
  pub free : lun.run.members ≡ 0
  pub group : c.erase ≡ false
  pub some : 1 ≤ lun.offer.group.members
  pub start : c.turn.start ≡ max from lun.run.since
  pub lowest : NoneBelow books (states_in luns) c.lun

-- a request of that number waits for the LUN
pub record IsHolder (luns : List LunBooks) (id lun : ℕ) : Type 0 where
  pub books : LunBooks
  pub there : slice_get luns lun ≡ Some books
  pub has : has_number (slots_in books.line) id ≡ true

-- .. for none of the LUNs below that number
abbrev pub NoneHolds : List LunBooks → ℕ → ℕ → Type 0
NoneHolds luns id below = (lun : ℕ) (l : LunBooks) → lun < below → slice_get luns lun ≡ Some l → has_number (slots_in l.line) id ≡ false
