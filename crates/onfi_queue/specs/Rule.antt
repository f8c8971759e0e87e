-- The rule of a submission queue, over what the queue holds and what each pass knows.
use Rattle.std.specs.Prelude.{◌≡◌, ◌⊎◌, ℕ, ◌+◌, ◌<◌, ◌≤◌, List, [], ◌∷◌, ◌++◌, length, slice_index_or}
use mathlib.Core.Option.{some}
use lib.ListN.{get_elem?}
use Rattle.onfi_request.specs.declared.request.Item.{Item}
use Rattle.onfi_queue.specs.declared.opened.Opened.{Opened}
use Rattle.onfi_queue.specs.declared.view.View.{View}
use Rattle.onfi_queue.specs.declared.view.View.TheVariants.{Unopened, AtHost, AtIntake, Spent}
use Rattle.onfi_queue.specs.Items.{items_from, AreNumbered, IsNext, IsSplit}

-- The history of a queue: what was accepted, and then what the queue holds. The intake's pass stands at `intake`. Hosts
-- were made with the numbers below `made`, and those below `gone` were taken back; the pass of host h stands at `seat h`.
pub record History : Type 0 where
  pub opened : Opened
  pub accepted : List Item
  pub log : List Item
  pub intake : ℕ
  pub seat : ℕ → ℕ
  pub gone : ℕ
  pub made : ℕ

-- what the pass that stands at a port knows
abbrev pub Sits : History → ℕ → View → Type 0
Sits history port (AtHost opened host sent) =
    (opened ≡ history.opened) × (port ≡ history.seat host) × (history.gone ≤ host) × (host < history.made) × (sent ≡ items_from host history.log)
Sits history port (AtIntake opened accepted made back) =
    (opened ≡ history.opened) × (port ≡ history.intake) × (accepted ≡ history.accepted) × (made ≡ history.made) × (length back ≡ history.gone)
    × ((host : ℕ) → host < history.gone → slice_index_or back host [] ≡ items_from host history.log)
Sits history port Spent = Unit {0}
Sits history port Unopened = ⊥

-- the items of each host are numbered, a host that isn't made has none, and each pass knows what it is to know
pub record IsKept (items : List Item) (views : List View) : Type 0 where
  pub history : History
  pub whole : history.log ≡ history.accepted ++ items
  pub back_first : history.gone ≤ history.made
  pub numbered : (host : ℕ) → AreNumbered history.opened.geometry host 0 (items_from host history.log)
  pub unsent : (host : ℕ) → history.made ≤ host → items_from host history.log ≡ []
  pub sits : (port : ℕ) (v : View) → get_elem? views port ≡ some v → Sits history port v

-- before it is opened the queue holds nothing and has one pass
abbrev pub IsRuled : List Item → List View → Type 0
IsRuled items views = ((items ≡ []) × (views ≡ Unopened ∷ [])) ⊎ IsKept items views

-- ---- what a view has
abbrev pub sent_of : View → List Item
sent_of (AtHost opened host sent) = sent
sent_of (AtIntake opened accepted made back) = []
sent_of Spent = []
sent_of Unopened = []

abbrev pub accepted_of : View → List Item
accepted_of (AtHost opened host sent) = []
accepted_of (AtIntake opened accepted made back) = accepted
accepted_of Spent = []
accepted_of Unopened = []

abbrev pub made_of : View → ℕ
made_of (AtHost opened host sent) = 0
made_of (AtIntake opened accepted made back) = made
made_of Spent = 0
made_of Unopened = 0

abbrev pub back_of : View → List (List Item)
back_of (AtHost opened host sent) = []
back_of (AtIntake opened accepted made back) = back
back_of Spent = []
back_of Unopened = []

-- ---- the steps: each changes the view of one seat
-- a push by a host: its sent list gets the item
abbrev pub after_sent : View → Item → View
after_sent (AtHost opened host sent) x = AtHost opened host (sent ++ x ∷ [])
after_sent (AtIntake opened accepted made back) x = AtIntake opened accepted made back
after_sent Spent x = Spent
after_sent Unopened x = Unopened

-- a pop by the intake: its accepted list gets the front
abbrev pub after_accepted : View → Item → View
after_accepted (AtHost opened host sent) x = AtHost opened host sent
after_accepted (AtIntake opened accepted made back) x = AtIntake opened (accepted ++ x ∷ []) made back
after_accepted Spent x = Spent
after_accepted Unopened x = Unopened

-- what the intake is shown of the front
abbrev pub ComesNext : View → Item → Type 0
ComesNext (AtHost opened host sent) x = Unit {0}
ComesNext (AtIntake opened accepted made back) x = IsNext opened.geometry made accepted x
ComesNext Spent x = Unit {0}
ComesNext Unopened x = Unit {0}

-- the intake makes the next host's pass
abbrev pub with_host_made : View → View
with_host_made (AtHost opened host sent) = AtHost opened host sent
with_host_made (AtIntake opened accepted made back) = AtIntake opened accepted (made + 1) back
with_host_made Spent = Spent
with_host_made Unopened = Unopened

abbrev pub next_host : View → View
next_host (AtHost opened host sent) = Spent
next_host (AtIntake opened accepted made back) = AtHost opened made []
next_host Spent = Spent
next_host Unopened = Spent

-- the intake takes a host's pass back, and keeps what that knew
abbrev pub with_back : View → View → View
with_back (AtHost opened host sent) other = AtHost opened host sent
with_back (AtIntake opened accepted made back) other = AtIntake opened accepted made (back ++ sent_of other ∷ [])
with_back Spent other = Spent
with_back Unopened other = Unopened

-- ---- what a pass knows of the items that the queue holds at a moment
-- after what was accepted of the host they are what it sent
abbrev pub HostSees : View → List Item → Type 0
HostSees (AtHost opened host sent) waiting = (accepted : List Item) × (sent ≡ items_from host accepted ++ items_from host waiting)
HostSees (AtIntake opened accepted made back) waiting = Unit {0}
HostSees Spent waiting = Unit {0}
HostSees Unopened waiting = Unit {0}

abbrev pub IntakeSees : View → List Item → Type 0
IntakeSees (AtHost opened host sent) waiting = Unit {0}
IntakeSees (AtIntake opened accepted made back) waiting = IsSplit opened.geometry made accepted back waiting
IntakeSees Spent waiting = Unit {0}
IntakeSees Unopened waiting = Unit {0}
