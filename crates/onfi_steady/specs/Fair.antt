-- No request is passed over for ever.
use Rattle.std.specs.Prelude.{ℕ, ◌+◌, ◌<◌, ◌≤◌, List, [], ◌∷◌, length, Option}
use Rattle.std.specs.List.{AllByRecursion as Each}
use Rattle.onfi_request.specs.declared.want.Want.{Want}
use Rattle.onfi_group.specs.declared.rules.Rules.{Rules}
use Rattle.onfi_group.specs.Words.{Pairs}
use Rattle.onfi_problem.specs.Problem.{Problem}
use Rattle.onfi_steady.specs.declared.next.NextPhase.{NextPhase}
use Rattle.onfi_steady.specs.declared.waiter.Waiter.{Waiter}
use Rattle.onfi_steady.specs.Waiting.{Books, accepted}
use Rattle.onfi_steady.specs.Offer.{on_lun}
use Rattle.onfi_steady.specs.Next.{IsNextPhase}
use Rattle.onfi_steady.specs.Dispatcher.{begun_books, cancelled}

-- each was passed over so often at most that with its place it is 575, where the first stands at that place
abbrev pub AreWithin : ℕ → List Waiter → Type 0
AreWithin at [] = Unit {0}
AreWithin at (w ∷ ws) = (w.passed + at ≤ 575) × AreWithin (at + 1) ws

-- what waits for a LUN: up to 64 requests by rising number, none passed over more often than one before it
pub record IsFair (waiting : List Waiter) : Type 0 where
  pub few : length waiting ≤ 64
  pub rises : Pairs (λ a b. a.want.id < b.want.id) waiting
  pub older : Pairs (λ a b. b.passed ≤ a.passed) waiting
  pub within : AreWithin 0 waiting

abbrev pub AreFair : Books → Type 0
AreFair books = (lun : ℕ) → IsFair (on_lun lun books.waiting)

-- no request was passed over by more groups: 512 until the slowest kind is due, and one for each of 63 before it
abbrev pub NoneStarves : Type 0
NoneStarves = (books : Books) → AreFair books → Each (λ w. w.passed ≤ 575) books.waiting

-- books of which nothing waits are fair
abbrev pub BeginsFairly : Type 0
BeginsFairly = (rules : Rules) (newest : Option ℕ) → AreFair (record { rules = rules; waiting = []; newest = newest })

-- books stay fair where a request is cancelled
abbrev pub CancelsFairly : Type 0
CancelsFairly = (books : Books) (lun id : ℕ) → AreFair books → AreFair (cancelled books lun id)

-- .. where a request comes whose number is above those that wait for its LUN
abbrev pub AcceptsFairly : Type 0
AcceptsFairly = (books : Books) (want : Want) → AreFair books → length (on_lun want.lun books.waiting) < 64 → Each (λ v. v.want.id < want.id) (on_lun want.lun books.waiting)
    → AreFair (accepted books want)

-- .. and where the phase runs that is next
abbrev pub RunsFairly : Type 0
RunsFairly = (books : Books) (p : Problem) (phase : NextPhase) → IsNextPhase books p phase → AreFair books → AreFair (begun_books books phase.lun phase.members.items)
