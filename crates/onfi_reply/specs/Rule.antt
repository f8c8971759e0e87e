-- The rule of a completion queue, over what the queue holds and what each pass knows.
use Rattle.std.specs.Prelude.{◌≡◌, ◌⊎◌, ℕ, Bool, true, false, List, [], ◌∷◌, ◌++◌, Option, Some, None}
use mathlib.Core.Option.{some}
use lib.ListN.{get_elem?}
use Rattle.onfi_request.specs.declared.reply.Reply.{Reply}
use Rattle.onfi_reply.specs.declared.opened_for.OpenedFor.{OpenedFor}
use Rattle.onfi_reply.specs.declared.view.View.{View}
use Rattle.onfi_reply.specs.declared.view.View.TheVariants.{Unopened, AtPoster, AtInbox, Spent}
use Rattle.onfi_reply.specs.Replies.{IsNext, AreProper}

-- The history of a queue: what was posted and what was popped. The poster's pass stands at `poster`, the inbox's, where
-- that was made and not yet given back, at `inbox`.
pub record History : Type 0 where
  pub opened : OpenedFor
  pub posted : List Reply
  pub popped : List Reply
  pub poster : ℕ
  pub inbox : ℕ
  pub made : Bool
  pub gone : Bool

-- what the inbox had popped is known once its pass was given back
abbrev pub IsBack : Bool → List Reply → Option (List Reply) → Type 0
IsBack gone popped None = gone ≡ false
IsBack gone popped (Some back) = (gone ≡ true) × (back ≡ popped)

-- what the pass that stands at a port knows
abbrev pub Sits : History → ℕ → View → Type 0
Sits history port (AtPoster opened posted made back) =
    (opened ≡ history.opened) × (port ≡ history.poster) × (posted ≡ history.posted) × (made ≡ history.made) × IsBack history.gone history.popped back
Sits history port (AtInbox opened popped) =
    (opened ≡ history.opened) × (port ≡ history.inbox) × (history.made ≡ true) × (history.gone ≡ false) × (popped ≡ history.popped)
Sits history port Spent = Unit {0}
Sits history port Unopened = ⊥

-- popped, and then held by the queue, is posted; that is proper; and each pass knows what it is to know
pub record IsKept (items : List Reply) (views : List View) : Type 0 where
  pub history : History
  pub whole : history.posted ≡ history.popped ++ items
  pub proper : AreProper history.opened history.posted
  pub unmade : history.made ≡ false → history.popped ≡ []
  pub gone_made : history.gone ≡ true → history.made ≡ true
  pub sits : (port : ℕ) (v : View) → get_elem? views port ≡ some v → Sits history port v

-- before it is opened the queue holds nothing and has one pass
abbrev pub IsRuled : List Reply → List View → Type 0
IsRuled items views = ((items ≡ []) × (views ≡ Unopened ∷ [])) ⊎ IsKept items views

-- ---- what a view has
abbrev pub posted_of : View → List Reply
posted_of (AtPoster opened posted made back) = posted
posted_of (AtInbox opened popped) = []
posted_of Spent = []
posted_of Unopened = []

abbrev pub popped_of : View → List Reply
popped_of (AtPoster opened posted made back) = []
popped_of (AtInbox opened popped) = popped
popped_of Spent = []
popped_of Unopened = []

abbrev pub made_of : View → Bool
made_of (AtPoster opened posted made back) = made
made_of (AtInbox opened popped) = false
made_of Spent = false
made_of Unopened = false

abbrev pub back_of : View → Option (List Reply)
back_of (AtPoster opened posted made back) = back
back_of (AtInbox opened popped) = None
back_of Spent = None
back_of Unopened = None

-- ---- the steps: each changes the view of one seat
-- a push by the poster: posted gets the reply
abbrev pub after_posted : View → Reply → View
after_posted (AtPoster opened posted made back) x = AtPoster opened (posted ++ x ∷ []) made back
after_posted (AtInbox opened popped) x = AtInbox opened popped
after_posted Spent x = Spent
after_posted Unopened x = Unopened

-- a pop by the inbox: popped gets the front
abbrev pub after_popped : View → Reply → View
after_popped (AtPoster opened posted made back) x = AtPoster opened posted made back
after_popped (AtInbox opened popped) x = AtInbox opened (popped ++ x ∷ [])
after_popped Spent x = Spent
after_popped Unopened x = Unopened

-- what the inbox is shown of the front
abbrev pub ComesNext : View → Reply → Type 0
ComesNext (AtPoster opened posted made back) x = Unit {0}
ComesNext (AtInbox opened popped) x = IsNext opened popped x
ComesNext Spent x = Unit {0}
ComesNext Unopened x = Unit {0}

-- the poster makes the inbox's pass
abbrev pub with_inbox_made : View → View
with_inbox_made (AtPoster opened posted made back) = AtPoster opened posted true back
with_inbox_made (AtInbox opened popped) = AtInbox opened popped
with_inbox_made Spent = Spent
with_inbox_made Unopened = Unopened

abbrev pub new_inbox : View → View
new_inbox (AtPoster opened posted made back) = AtInbox opened []
new_inbox (AtInbox opened popped) = Spent
new_inbox Spent = Spent
new_inbox Unopened = Spent

-- the poster takes the inbox's pass back, and keeps what that knew
abbrev pub with_back : View → View → View
with_back (AtPoster opened posted made back) other = AtPoster opened posted made (Some (popped_of other))
with_back (AtInbox opened popped) other = AtInbox opened popped
with_back Spent other = Spent
with_back Unopened other = Unopened

-- ---- what a pass knows of the replies that the queue holds at a moment
-- where the inbox is back, after what it popped they are what was posted
abbrev pub Completes : List Reply → List Reply → Option (List Reply) → Type 0
Completes posted waiting None = Unit {0}
Completes posted waiting (Some back) = posted ≡ back ++ waiting

-- they are the end of what was posted
abbrev pub PosterSees : View → List Reply → Type 0
PosterSees (AtPoster opened posted made back) waiting = ((popped : List Reply) × (posted ≡ popped ++ waiting)) × Completes posted waiting back
PosterSees (AtInbox opened popped) waiting = Unit {0}
PosterSees Spent waiting = Unit {0}
PosterSees Unopened waiting = Unit {0}

-- after what was popped they are proper
abbrev pub InboxSees : View → List Reply → Type 0
InboxSees (AtPoster opened posted made back) waiting = Unit {0}
InboxSees (AtInbox opened popped) waiting = AreProper opened (popped ++ waiting)
InboxSees Spent waiting = Unit {0}
InboxSees Unopened waiting = Unit {0}
