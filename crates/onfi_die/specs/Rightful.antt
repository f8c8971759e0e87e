-- Replies that are rightful in an accepted list.
use Rattle.std.specs.Prelude.{◌≡◌, ◌≢◌, List, ◌++◌, Some, slice_get}
use Rattle.std.specs.List.{AllByRecursion as Each}
use Rattle.onfi_request.specs.Words.{Pairs}
use Rattle.onfi_request.specs.declared.request.Item.{Item}
use Rattle.onfi_request.specs.declared.reply.Reply.{Reply}
use Rattle.onfi_die.specs.Shapes.{Device}
use Rattle.onfi_die.specs.Answers.{answer_at}

-- names the host and serial of the item at its place, and has its answer
pub record IsRightful (device : Device) (accepted : List Item) (r : Reply) : Type 0 where
  pub item : Item
  pub there : slice_get accepted r.place ≡ Some item
  pub host : r.host ≡ item.host
  pub serial : r.serial ≡ item.serial
  pub answer : r.answer ≡ answer_at device accepted r.place item

-- the places are distinct too
pub record AreRightful (device : Device) (accepted : List Item) (replies : List Reply) : Type 0 where
  pub once : Pairs (λ a b. a.place ≢ b.place) replies
  pub each : Each (IsRightful device accepted) replies

-- what is rightful stays so in every longer list
abbrev pub StaysRightful : Type 0
StaysRightful = (device : Device) (accepted more : List Item) (replies : List Reply) → AreRightful device accepted replies → AreRightful device (accepted ++ more) replies
