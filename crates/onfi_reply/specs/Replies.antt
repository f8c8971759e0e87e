-- Which replies may stand in a completion queue, and in which order.
use Rattle.std.specs.Prelude.{◌≡◌, List, [], ◌∷◌, ◌++◌}
use Rattle.std.specs.List.{AllByRecursion as Each}
use Rattle.onfi_request.specs.declared.reply.Reply.{Reply}
use Rattle.onfi_die.specs.Order.{AreRightfulIn, EachRightful}
use Rattle.onfi_reply.specs.declared.opened_for.OpenedFor.{OpenedFor}

-- the reply may come next after these: it is of the queue's host, and they, and then it, are rightful in what it rests on
pub record IsNext (opened : OpenedFor) (before : List Reply) (r : Reply) : Type 0 where
  pub host : r.host ≡ opened.host
  pub rightful : AreRightfulIn opened.geometry r (before ++ r ∷ [])

-- all are of the queue's host, and each beginning but the empty one is rightful in what its last reply rests on
pub record AreProper (opened : OpenedFor) (replies : List Reply) : Type 0 where
  pub own : Each (λ r. r.host ≡ opened.host) replies
  pub rightful : EachRightful opened.geometry replies
