-- What clauses see of a poster and of an inbox.
use Rattle.std.specs.Prelude.{◌≡◌, ℕ, ◌+◌, ◌-◌, Bool, true, false, List, [], ◌∷◌, ◌++◌, length, take, drop, Option, Some, None}
use Rattle.atomic_table.specs.Seated.{TableId}
use Rattle.crossbeam_queue.specs.Fifo.{Held}
use Rattle.onfi_request.specs.declared.reply.Reply.{Reply}
use Rattle.onfi_reply.specs.declared.opened_for.OpenedFor.{OpenedFor}
use Rattle.onfi_reply.specs.declared.view.View.TheVariants.{AtPoster, AtInbox}
use Rattle.onfi_reply.specs.Replies.{IsNext}
use Rattle.onfi_reply.specs.Rule.{PosterSees, InboxSees}

-- a poster: of which queue it is, what that was opened for, and what was posted
pub record PosterView : Type 0 where
  pub queue : TableId
  pub capacity : ℕ
  pub opened : OpenedFor
  pub posted : List Reply

-- an inbox: of which queue it is, what that was opened for, what it gave, what it took in and will give next, and how often
-- a taking in was refused memory
pub record InboxView : Type 0 where
  pub queue : TableId
  pub capacity : ℕ
  pub opened : OpenedFor
  pub given : List Reply
  pub waiting : List Reply
  pub refused : ℕ

-- ---- opening
-- the poster of a queue as it opens: nothing is posted
abbrev pub fresh_poster : TableId → OpenedFor → ℕ → PosterView
fresh_poster queue opened capacity = record { queue = queue; capacity = capacity; opened = opened; posted = [] }

-- the inbox of the poster's queue, which gave nothing and took nothing in
abbrev pub inbox_of : PosterView → InboxView
inbox_of p = record { queue = p.queue; capacity = p.capacity; opened = p.opened; given = []; waiting = []; refused = 0 }

-- ---- posting
abbrev pub after_posting : PosterView → Reply → PosterView
after_posting p x = record p { posted = p.posted ++ x ∷ [] }

-- a full queue goes with what was posted: what that queue holds is the end of it
abbrev pub SawFull : PosterView → Type 0
SawFull p = Held p.capacity (PosterSees (AtPoster p.opened p.posted true None))

-- ---- collecting
-- where anything waits, the reply is the first of that
abbrev pub IsFirstOf : List Reply → Reply → Type 0
IsFirstOf [] x = Unit {0}
IsFirstOf (y ∷ ys) x = x ≡ y

-- one more is given, and where anything waits, its first doesn't any more
abbrev pub after_collecting : InboxView → Reply → InboxView
after_collecting i x = record i { given = i.given ++ x ∷ []; waiting = drop 1 i.waiting }

-- an empty queue goes with what was popped
abbrev pub SawEmpty : InboxView → Type 0
SawEmpty i = Held 0 (InboxSees (AtInbox i.opened (i.given ++ i.waiting)))

-- one reply more waits, the next after all that were popped; or none was there
abbrev pub TookIn : Bool → InboxView → InboxView → Type 0
TookIn true i j = (x : Reply) × (j ≡ record i { waiting = i.waiting ++ x ∷ [] }) × IsNext i.opened (i.given ++ i.waiting) x
TookIn false i j = (j ≡ i) × SawEmpty i

-- a taking in was refused memory, and nothing else changed
abbrev pub after_refusing : InboxView → InboxView
after_refusing i = record i { refused = i.refused + 1 }

-- ---- closing
-- what the inbox popped, and then what waits in the queue, is what was posted
abbrev pub Settled : PosterView → InboxView → Type 0
Settled p i = (waiting : List Reply) × (p.posted ≡ (i.given ++ i.waiting) ++ waiting)

-- ---- the poster's seat: also whether the inbox was made, and what it had popped where that is back
pub record PosterSeatView : Type 0 where
  pub queue : TableId
  pub capacity : ℕ
  pub opened : OpenedFor
  pub posted : List Reply
  pub made : Bool
  pub back : Option (List Reply)

abbrev pub fresh_seat : TableId → OpenedFor → ℕ → PosterSeatView
fresh_seat queue opened capacity = record { queue = queue; capacity = capacity; opened = opened; posted = []; made = false; back = None }

abbrev pub with_made : PosterSeatView → PosterSeatView
with_made s = record s { made = true }

abbrev pub with_posted : PosterSeatView → Reply → PosterSeatView
with_posted s x = record s { posted = s.posted ++ x ∷ [] }

abbrev pub with_returned : PosterSeatView → List Reply → PosterSeatView
with_returned s popped = record s { back = Some popped }

abbrev pub SeatSawFull : PosterSeatView → Type 0
SeatSawFull s = Held s.capacity (PosterSees (AtPoster s.opened s.posted s.made s.back))

abbrev pub SeatSettled : List Reply → List Reply → Type 0
SeatSettled posted popped = (waiting : List Reply) × (posted ≡ popped ++ waiting)

-- ---- the inbox's seat: what was popped, whether it was given or waits
pub record InboxSeatView : Type 0 where
  pub queue : TableId
  pub capacity : ℕ
  pub opened : OpenedFor
  pub popped : List Reply

abbrev pub inbox_seat_of : PosterSeatView → InboxSeatView
inbox_seat_of s = record { queue = s.queue; capacity = s.capacity; opened = s.opened; popped = [] }

abbrev pub with_popped : InboxSeatView → Reply → InboxSeatView
with_popped p x = record p { popped = p.popped ++ x ∷ [] }

abbrev pub SeatSawEmpty : InboxSeatView → Type 0
SeatSawEmpty p = Held 0 (InboxSees (AtInbox p.opened p.popped))

-- what was popped without its end, which waits
abbrev pub given_of : List Reply → List Reply → List Reply
given_of popped waiting = take (length popped - length waiting) popped

-- what waits is the end of what was popped, each next after those before it
pub record IsWhole (seat : InboxSeatView) (waiting : List Reply) : Type 0 where
  pub split : seat.popped ≡ given_of seat.popped waiting ++ waiting
  pub next : (before : List Reply) (r : Reply) (behind : List Reply) → waiting ≡ before ++ r ∷ behind → IsNext seat.opened (given_of seat.popped waiting ++ before) r
