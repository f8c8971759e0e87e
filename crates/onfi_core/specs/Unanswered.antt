-- The items that wait for their reply to be posted.
use Rattle.std.specs.Prelude.{◌≡◌, ℕ, ◌+◌, ◌<◌, ◌≤◌, ◌==◌, nat_lt, min, if◌then◌else◌, List, [], ◌∷◌, Option, Some, None}
use Rattle.onfi_request.specs.declared.request.Item.{Item}
use Rattle.onfi_request.specs.declared.reply.Reply.{Reply}
use Rattle.onfi_group.specs.Words.{number}
use Rattle.slab.specs.Slab.{Slab, get}
use Rattle.onfi_core.specs.declared.slot.Slot.{Slot}
use Rattle.onfi_core.specs.State.{HalfState}
use Rattle.onfi_core.specs.Kept.{is_of_place}
use Rattle.onfi_core.specs.View.{HasSlot}

-- of items, the first of which stands at the place, host and serial of each to which none of these is a reply
abbrev pub senders_from : List Reply → ℕ → List Item → List (ℕ × ℕ)
senders_from posted place [] = []
senders_from posted place (x ∷ xs) =
    if number (is_of_place place) posted == 0
    then (x.host, x.serial) ∷ senders_from posted (place + 1) xs
    else senders_from posted (place + 1) xs

-- host and serial of each accepted item without a posted reply, in acceptance order
abbrev pub unanswered_senders : HalfState → List (ℕ × ℕ)
unanswered_senders h = senders_from h.posted 0 h.accepted

-- of one place so far and another, the lesser that isn't below the first
abbrev pub nearer : Option ℕ → ℕ → ℕ → Option ℕ
nearer None from place = if nat_lt place from then None else Some place
nearer (Some least) from place = if nat_lt place from then Some least else Some (min least place)

-- of the slots below the key, the least place that isn't below the first
abbrev pub IsNearest : Slab Slot → ℕ → ℕ → Option ℕ → Type 0
IsNearest slots below from None = (key : ℕ) (slot : Slot) → key < below → get slots key ≡ Some slot → slot.place < from
IsNearest slots below from (Some place) =
    (from ≤ place) × HasSlot slots place × ((key : ℕ) (slot : Slot) → key < below → get slots key ≡ Some slot → from ≤ slot.place → place ≤ slot.place)
