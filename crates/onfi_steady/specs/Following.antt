-- A channel as a problem is that of its books, whatever happens.
use Rattle.std.specs.Prelude.{◌≡◌, ℕ, ◌<◌, ◌==◌, if◌then◌else◌, List, [], ◌∷◌, ◌++◌, length, Option, Some, None, slice_get}
use Rattle.std.specs.List.{AllByRecursion as Each}
use Rattle.onfi_timing.specs.declared.timing.Timing.{Timing}
use Rattle.onfi_request.specs.declared.want.Want.{Want}
use Rattle.onfi_problem.specs.declared.lun_state.LunState.{LunState}
use Rattle.onfi_problem.specs.declared.lun_state.LunState.TheVariants.{Free, Running}
use Rattle.onfi_problem.specs.Moves.{IsMove, move_lun, placed}
use Rattle.onfi_problem.specs.Problem.{IsProblem, IsWant, Problem}
use Rattle.onfi_steady.specs.declared.dispatcher.Dispatcher.{Dispatcher}
use Rattle.onfi_steady.specs.declared.fault.ReadyFault.{ReadyFault}
use Rattle.onfi_steady.specs.declared.fault.ReadyFault.TheVariants.{BadLun, NotInArray}
use Rattle.onfi_steady.specs.declared.next.NextPhase.{NextPhase}
use Rattle.onfi_steady.specs.Waiting.{Books, accepted, channel}
use Rattle.onfi_steady.specs.Next.{IsNextPhase, move_by}
use Rattle.onfi_steady.specs.Dispatcher.{HasRun, IsOf, accept_refusal, begun_books, due_wants, ready_refusal, states_of}

-- the channel once a phase began on the LUN at that time, of these members, or of what runs there
abbrev pub phase_ran : Problem → ℕ → List Want → ℕ → Problem
phase_ran p lun members started = placed p (move_by lun members) started

-- it is the channel of the books that are left
abbrev pub RunFollows : Type 0
RunFollows = (timing : Timing) (from : ℕ) (luns : List LunState) (books : Books) (lun : ℕ) (members : List Want) (started : ℕ) → IsProblem (channel timing from luns books)
    → IsMove (channel timing from luns books) (move_by lun members) → move_lun (move_by lun members) ≡ lun
    → phase_ran (channel timing from luns books) lun members started
    ≡ channel timing (phase_ran (channel timing from luns books) lun members started).bus_free (phase_ran (channel timing from luns books) lun members started).luns (begun_books books lun members)

-- so a dispatcher whose due phase ran is of the channel that the phase leaves
abbrev pub RanFollows : Type 0
RanFollows = (timing : Timing) (books : Books) (old new : Dispatcher) (started : ℕ) → IsProblem (channel timing old.bus_free (states_of old) books) → HasRun timing books old new started
    → phase_ran (channel timing old.bus_free (states_of old) books) old.due.lun (due_wants old) started
    ≡ channel timing new.bus_free (states_of new) (begun_books books old.due.lun (due_wants old))

-- a request that is accepted is the last want, and the channel stays a problem where its number is above the others
pub record IsAccepted (timing : Timing) (from : ℕ) (luns : List LunState) (books : Books) (want : Want) : Type 0 where
  pub wants : (channel timing from luns (accepted books want)).wants ≡ (channel timing from luns books).wants ++ want ∷ []
  pub problem : IsProblem (channel timing from luns books) → IsWant want → want.lun < length luns → Each (λ w. w.want.id < want.id) books.waiting
      → IsProblem (channel timing from luns (accepted books want))

abbrev pub AcceptFollows : Type 0
AcceptFollows = (timing : Timing) (from : ℕ) (luns : List LunState) (books : Books) (want : Want) → IsAccepted timing from luns books want

-- a dispatcher refuses no request of such a number for a LUN that is there while fewer than 64 wait
abbrev pub TakesRising : Type 0
TakesRising = (timing : Timing) (books : Books) (d : Dispatcher) (want : Want) → IsOf timing books d → want.lun < length (states_of d) → length books.waiting < 64
    → Each (λ w. w.want.id < want.id) books.waiting → accept_refusal d want ≡ None

-- two phases are the same one
pub record IsSamePhase (a b : NextPhase) : Type 0 where
  pub lun : a.lun ≡ b.lun
  pub members : a.members.items ≡ b.members.items
  pub start : a.start ≡ b.start

-- one phase is next
abbrev pub OneNext : Type 0
OneNext = (books : Books) (p : Problem) (a b : NextPhase) → IsNextPhase books p a → IsNextPhase books p b → IsSamePhase a b

-- the next phase of what a LUN runs is the first post, or why it isn't
abbrev pub array_fault : Option LunState → Option ReadyFault
array_fault None = Some BadLun
array_fault (Some (Free since)) = Some NotInArray
array_fault (Some (Running group next ready)) = if next == length group then None else Some NotInArray

-- so what LUNs do decides whether one is found ready
abbrev pub ReadyFollows : Type 0
ReadyFollows = (d : Dispatcher) (lun : ℕ) → ready_refusal d lun ≡ array_fault (slice_get (states_of d) lun)
