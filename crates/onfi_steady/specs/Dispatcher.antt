-- A dispatcher: what is kept of a channel from call to call.
use Rattle.std.specs.Prelude.{◌≡◌, ◌≢◌, ℕ, ◌<◌, ◌≤◌, ◌==◌, ◌^◌, nat_lt, not, if◌then◌else◌, Bool, true, false, List, [], ◌∷◌, length, take, Option, Some, None, slice_get}
use Rattle.std.specs.List.{AllByRecursion as Each, filter, list_any}
use Rattle.onfi_timing.specs.declared.timing.Timing.{Timing}
use Rattle.onfi_request.specs.declared.want.Want.{Want}
use Rattle.onfi_group.specs.Words.{Pairs}
use Rattle.onfi_problem.specs.declared.lun_state.LunState.{LunState}
use Rattle.onfi_problem.specs.declared.lun_state.LunState.TheVariants.{Running}
use Rattle.onfi_problem.specs.Moves.{IsMove, move_lun, placed}
use Rattle.onfi_steady.specs.declared.dispatcher.Dispatcher.{Dispatcher}
use Rattle.onfi_steady.specs.declared.fault.AcceptFault.{AcceptFault}
use Rattle.onfi_steady.specs.declared.fault.AcceptFault.TheVariants.{BadLun, BadOrder, Full, Waits}
use Rattle.onfi_steady.specs.declared.fault.RanFault.{RanFault}
use Rattle.onfi_steady.specs.declared.fault.RanFault.TheVariants.{NothingDue, TooLate, TooSoon}
use Rattle.onfi_steady.specs.declared.fault.ReadyFault.{ReadyFault}
use Rattle.onfi_steady.specs.declared.fault.ReadyFault.TheVariants.{BadLun as NoLun, NotInArray}
use Rattle.onfi_steady.specs.declared.group_phase.GroupPhase.{GroupPhase}
use Rattle.onfi_steady.specs.declared.lun_books.LunBooks.{LunBooks}
use Rattle.onfi_steady.specs.declared.newest.Newest.{Newest}
use Rattle.onfi_steady.specs.declared.next.NextPhase.{NextPhase}
use Rattle.onfi_steady.specs.declared.run.Run.{Run}
use Rattle.onfi_steady.specs.declared.waiter.Waiter.{Waiter}
use Rattle.onfi_steady.specs.Waiting.{Books, begun, channel, is_on}
use Rattle.onfi_steady.specs.Offer.{ready_on}
use Rattle.onfi_steady.specs.Next.{move_by}
use Rattle.onfi_steady.specs.Slots.{AreSpansOf, has_number, is_line_below, slots_in}
use Rattle.onfi_steady.specs.LunBooks.{IsGroupPhase, states_in}
use Rattle.onfi_steady.specs.Selecting.{AreLuns, begun_at, can_run_at}

abbrev pub luns_of : Dispatcher → List LunBooks
luns_of d = take d.due.luns d.lun

-- what each LUN does
abbrev pub states_of : Dispatcher → List LunState
states_of d = states_in (luns_of d)

abbrev pub newest_in : Newest → Option ℕ
newest_in n = if n.is_there then Some n.number else None

abbrev pub newest_of : Dispatcher → Option ℕ
newest_of d = newest_in d.newest

-- two requests don't wait for one LUN under one number
abbrev pub Differ : Waiter → Waiter → Type 0
Differ a b = a.want.lun ≡ b.want.lun → a.want.id ≢ b.want.id

abbrev pub AreDistinct : Books → Type 0
AreDistinct books = Pairs Differ books.waiting

-- what is kept is that of a channel with these lengths and these books: its rules, its newest program, what waits for each LUN,
-- no two requests under one number, and of each LUN that runs nothing its offer
pub record IsOf (timing : Timing) (books : Books) (d : Dispatcher) : Type 0 where
  pub spans : AreSpansOf timing d.spans
  pub rules : d.rules ≡ books.rules
  pub newest : newest_of d ≡ books.newest
  pub planes : Each (λ w. w.want.plane ≤ 3) books.waiting
  pub there : Each (λ w. w.want.lun < length (luns_of d)) books.waiting
  pub distinct : AreDistinct books
  pub luns : AreLuns timing books (luns_of d)

-- those that begin with the phase that is due; none where its LUN goes on
abbrev pub due_wants : Dispatcher → List Want
due_wants d = begun_at (luns_of d) d.due.lun d.due.erase

abbrev pub has_due : Dispatcher → Bool
has_due d = if d.due.is_there then can_run_at (luns_of d) d.due.lun d.due.erase else false

-- the phase that was given is due
pub record IsDue (d : Dispatcher) (phase : NextPhase) : Type 0 where
  pub is : has_due d ≡ true
  pub lun : d.due.lun ≡ phase.lun
  pub members : due_wants d ≡ phase.members.items
  pub start : d.due.start ≡ phase.start

-- the next phase of what the LUN runs, or the first of these members that begin on it
abbrev pub IsPhaseOn : Timing → List LunState → ℕ → List Want → GroupPhase → Type 0
IsPhaseOn timing luns lun [] phase =
    (group : List Want) × (next : ℕ) × (ready : ℕ) × (slice_get luns lun ≡ Some (Running group next ready)) × IsGroupPhase timing group next phase
IsPhaseOn timing luns lun (m ∷ ms) phase = IsGroupPhase timing (m ∷ ms) 0 phase

-- why the due phase didn't run from then on: the first of these
abbrev pub ran_refusal : Dispatcher → ℕ → Option RanFault
ran_refusal d started =
    if has_due d then (if nat_lt started d.due.start then Some TooSoon else (if nat_lt started (2 ^ 62) then None else Some TooLate)) else Some NothingDue

-- what waits once these members began, if any did
abbrev pub begun_books : Books → ℕ → List Want → Books
begun_books books lun [] = books
begun_books books lun (m ∷ ms) = begun books lun (m ∷ ms)

-- the due phase ran from `started` on: bus and LUNs are those of the problem that it leaves, and what began waits no more
pub record HasRun (timing : Timing) (books : Books) (old new : Dispatcher) (started : ℕ) : Type 0 where
  pub move : IsMove (channel timing old.bus_free (states_of old) books) (move_by old.due.lun (due_wants old))
  pub lun : move_lun (move_by old.due.lun (due_wants old)) ≡ old.due.lun
  pub bus_free : new.bus_free ≡ (placed (channel timing old.bus_free (states_of old) books) (move_by old.due.lun (due_wants old)) started).bus_free
  pub states : states_of new ≡ (placed (channel timing old.bus_free (states_of old) books) (move_by old.due.lun (due_wants old)) started).luns
  pub is : IsOf timing (begun_books books old.due.lun (due_wants old)) new

-- why no request of that number may wait before the others of a LUN: the first of these
abbrev pub head_refusal : LunBooks → ℕ → Option AcceptFault
head_refusal l id = if nat_lt (length (slots_in l.line)) 64 then (if has_number (slots_in l.line) id then Some Waits else None) else Some Full

-- .. after the others
abbrev pub lun_refusal : LunBooks → ℕ → Option AcceptFault
lun_refusal l id = if is_line_below l.line id then head_refusal l id else (if nat_lt (length (slots_in l.line)) 64 then Some BadOrder else Some Full)

abbrev pub line_refusal : ℕ → Option LunBooks → Option AcceptFault
line_refusal id None = Some BadLun
line_refusal id (Some l) = lun_refusal l id

-- why a request isn't accepted: the first of these
abbrev pub accept_refusal : Dispatcher → Want → Option AcceptFault
accept_refusal d want = line_refusal want.id (slice_get (luns_of d) want.lun)

-- all but what is due stays
pub record IsBut (old new : Dispatcher) : Type 0 where
  pub rules : new.rules ≡ old.rules
  pub spans : new.spans ≡ old.spans
  pub bus_free : new.bus_free ≡ old.bus_free
  pub newest : newest_of new ≡ newest_of old
  pub luns : luns_of new ≡ luns_of old

-- the array of what a LUN runs works: its next phase is the first post
abbrev pub in_array : Run → Bool
in_array r = if r.members == 0 then false else r.next == r.members

abbrev pub array_refusal : Option LunBooks → Option ReadyFault
array_refusal None = Some NoLun
array_refusal (Some l) = if in_array l.run then None else Some NotInArray

-- why a LUN isn't found ready: the first of these
abbrev pub ready_refusal : Dispatcher → ℕ → Option ReadyFault
ready_refusal d lun = array_refusal (slice_get (luns_of d) lun)

-- a request of that number waits for the LUN
abbrev pub is_request : ℕ → ℕ → Waiter → Bool
is_request lun id w = if is_on lun w then w.want.id == id else false

abbrev pub has_id : ℕ → Waiter → Bool
has_id id w = w.want.id == id

-- it waits no more
abbrev pub cancelled : Books → ℕ → ℕ → Books
cancelled books lun id = record { rules = books.rules; waiting = filter (λ w. not (is_request lun id w)) books.waiting; newest = books.newest }

-- a request of that number went out, of one LUN; or none waits, and all is as it was
abbrev pub IsCancelled : Timing → Books → ℕ → Dispatcher → Dispatcher → Bool → Type 0
IsCancelled timing books id old new true = (lun : ℕ) × (list_any (is_request lun id) books.waiting ≡ true) × IsOf timing (cancelled books lun id) new
IsCancelled timing books id old new false = (list_any (has_id id) books.waiting ≡ false) × (new ≡ old)

-- a request waits before all others; no group passed it over
abbrev pub accepted_again : Books → Want → Books
accepted_again books want = record { rules = books.rules; waiting = record { want = want; passed = 0 } ∷ books.waiting; newest = books.newest }

abbrev pub again_line_refusal : ℕ → Option LunBooks → Option AcceptFault
again_line_refusal id None = Some BadLun
again_line_refusal id (Some l) = head_refusal l id

-- why a request isn't taken in again: the first of these
abbrev pub again_refusal : Dispatcher → Want → Option AcceptFault
again_refusal d want = again_line_refusal want.id (slice_get (luns_of d) want.lun)

-- of a LUN's requests that may begin it is the first
abbrev pub StandsFirst : Books → Want → Type 0
StandsFirst books want = slice_get (ready_on want.lun books.waiting) 0 ≡ Some (record { want = want; passed = 0 })
