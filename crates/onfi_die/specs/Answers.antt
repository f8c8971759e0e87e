-- The answer at a place of an accepted list.
use Rattle.std.specs.Prelude.{ℕ, List, map, take}
use Rattle.std.specs.List.{filter}
use Rattle.onfi_request.specs.declared.answer.Answer.{Answer}
use Rattle.onfi_request.specs.declared.request.Request.{Request}
use Rattle.onfi_request.specs.declared.request.Item.{Item}
use Rattle.onfi_die.specs.Shapes.{Device}
use Rattle.onfi_die.specs.Contents.{fresh, runs, answer_of}
use Rattle.onfi_die.specs.Blocks.{is_on}

-- the requests that name the block, in acceptance order
abbrev pub requests_on : ℕ → ℕ → List Item → List Request
requests_on lun block items = filter (is_on lun block) (map (λ x. x.request) items)

-- the answer to the item accepted after these: their requests that name its block, one by one on the erased block, and then its own
abbrev pub answer_behind : Device → List Item → Item → Answer
answer_behind device before x =
    answer_of device x.request (runs device (requests_on x.request.place.lun x.request.place.block before) (fresh device))

-- the answer at the place where the item stands
abbrev pub answer_at : Device → List Item → ℕ → Item → Answer
answer_at device accepted place x = answer_behind device (take place accepted) x
