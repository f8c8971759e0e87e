-- The way W: of each LUN its group, of all LUNs the phase that goes first.
use Rattle.std.specs.Prelude.{◌≡◌, ◌≢◌, ◌⊎◌, ℕ, ◌+◌, ◌<◌, ◌≤◌, ◌==◌, nat_lt, not, if◌then◌else◌, Bool, true, false, List, [], ◌∷◌, length, Option, Some, None, slice_get}
use Rattle.std.specs.List.{AllByRecursion as Each, find, list_any}
use Rattle.onfi_timing.specs.declared.kind.Kind.TheVariants.{Read}
use Rattle.onfi_timing.specs.declared.operation.Operation.TheVariants.{Erase}
use Rattle.onfi_request.specs.declared.want.Want.{Want}
use Rattle.onfi_group.specs.declared.rules.Rules.{Rules}
use Rattle.onfi_group.specs.Words.{Has}
use Rattle.onfi_group.specs.Group.{group_operation}
use Rattle.onfi_problem.specs.declared.lun_state.LunState.{LunState}
use Rattle.onfi_problem.specs.declared.lun_state.LunState.TheVariants.{Free, Running}
use Rattle.onfi_problem.specs.Problem.{Problem}
use Rattle.onfi_problem.specs.Moves.{Move, Next, Start, IsMove, earliest, move_lun}
use Rattle.onfi_steady.specs.declared.waiter.Waiter.{Waiter}
use Rattle.onfi_steady.specs.declared.next.NextPhase.{NextPhase}
use Rattle.onfi_steady.specs.Order.{GoesBefore}
use Rattle.onfi_steady.specs.Ranks.{operation_rank, phase_numbers}
use Rattle.onfi_steady.specs.Waiting.{Books}
use Rattle.onfi_steady.specs.Offer.{ready_on, on_lun, own_group, erase_group, is_open, is_kind, is_due}

-- a LUN has work: its group is in its commands and is no erase, or is ready within the array time of a program; or it
-- runs nothing, and a read waits for it
abbrev pub has_work : Problem → Bool → LunState → Bool
has_work p reads (Free since) = reads
has_work p reads (Running group next ready) =
    if nat_lt next (length group) then not (operation_rank (group_operation group) == operation_rank Erase) else not (nat_lt (p.bus_free + p.timing.program.array) ready)

-- one of these LUNs has, of which the first has that number
abbrev pub have_work : Books → Problem → ℕ → List LunState → Bool
have_work books p at [] = false
have_work books p at (state ∷ luns) = if has_work p (list_any (is_kind Read) (on_lun at books.waiting)) state then true else have_work books p (at + 1) luns

abbrev pub any_work : Books → Problem → Bool
any_work books p = have_work books p 0 p.luns

abbrev pub is_number : Option ℕ → Want → Bool
is_number None m = false
is_number (Some id) m = m.id == id

-- an open group waits for its mates while it holds the newest accepted program and a LUN has work
abbrev pub is_held : Books → Bool → List Waiter → Bool
is_held books work ready =
    if is_open books.rules ready then (if work then list_any (is_number books.newest) (own_group books.rules ready) else false) else false

-- an erase goes in place of what is held
abbrev pub given_group : Books → Bool → List Waiter → List Want
given_group books work ready = if is_held books work ready then erase_group books.rules ready else own_group books.rules ready

abbrev pub begin_with : List Want → Option Move
begin_with [] = None
begin_with (m ∷ ms) = Some (Start (m ∷ ms))

-- the move that a LUN gives: what it runs goes on; else its group begins
abbrev pub given_by : (List Waiter → List Want) → Books → ℕ → Option LunState → Option Move
given_by group books lun None = None
given_by group books lun (Some (Running members next ready)) = Some (Next lun)
given_by group books lun (Some (Free since)) = begin_with (group (ready_on lun books.waiting))

abbrev pub given_move : Books → Problem → ℕ → Option Move
given_move books p lun = given_by (given_group books (any_work books p)) books lun (slice_get p.luns lun)

-- .. whether its group is held or not
abbrev pub own_move : Books → Problem → ℕ → Option Move
own_move books p lun = given_by (own_group books.rules) books lun (slice_get p.luns lun)

-- of what LUNs give, the phase that goes first
pub record IsFirstGiven (books : Books) (p : Problem) (m : Move) : Type 0 where
  pub given : given_move books p (move_lun m) ≡ Some m
  pub first : (lun : ℕ) (n : Move) → given_move books p lun ≡ Some n → (n ≡ m) ⊎ GoesBefore (phase_numbers p) p m n

-- where no LUN gives any, what the lowest LUN holds
pub record IsFirstHeld (books : Books) (p : Problem) (m : Move) : Type 0 where
  pub none : (lun : ℕ) → given_move books p lun ≡ None
  pub own : own_move books p (move_lun m) ≡ Some m
  pub lowest : (lun : ℕ) → lun < move_lun m → own_move books p lun ≡ None

-- nothing runs, and nothing waits for a LUN that is there
pub record IsIdle (p : Problem) : Type 0 where
  pub free : (lun : ℕ) (group : List Want) (next ready : ℕ) → slice_get p.luns lun ≢ Some (Running group next ready)
  pub none : Each (λ w. length p.luns ≤ w.lun) p.wants

abbrev pub move_by : ℕ → List Want → Move
move_by lun [] = Next lun
move_by lun (m ∷ ms) = Start (m ∷ ms)

-- the move whose phase is next
abbrev pub move_of_phase : NextPhase → Move
move_of_phase phase = move_by phase.lun phase.members.items

-- the oldest that is due of a LUN's requests that may begin is in the group that begins there
abbrev pub TakesDue : Books → NextPhase → Type 0
TakesDue books phase = (w : Waiter) → find is_due (ready_on phase.lun books.waiting) ≡ Some w → phase.members.items ≢ [] → Has phase.members.items w.want

-- what is said of the phase that is next: it is what a LUN gives, or where none gives any what the lowest one holds; it may come
-- next on the channel, and starts as soon as it may
pub record IsNextPhase (books : Books) (p : Problem) (phase : NextPhase) : Type 0 where
  pub next : IsFirstGiven books p (move_of_phase phase) ⊎ IsFirstHeld books p (move_of_phase phase)
  pub move : IsMove p (move_of_phase phase)
  pub lun : move_lun (move_of_phase phase) ≡ phase.lun
  pub start : phase.start ≡ earliest p (move_of_phase phase)
  pub due : TakesDue books phase
