-- What is rightful stays so when more is accepted.
use Rattle.std.proofs.Common.{List, ◌++◌, ap, sym, ◌∙◌}
use Rattle.std.specs.List.{AllByRecursion as Each}
use Rattle.onfi_request.specs.declared.request.Item.{Item}
use Rattle.onfi_request.specs.declared.reply.Reply.{Reply}
use Rattle.onfi_die.specs.Shapes.{Device}
use Rattle.onfi_die.specs.Answers.{answer_behind}
use Rattle.onfi_die.specs.Rightful.{IsRightful, StaysRightful}
use Rattle.onfi_die.proofs.Lists.{get_more, take_of_more, Each-map}

pub stays_right : (device : Device) (accepted more : List Item) (r : Reply) → IsRightful device accepted r → IsRightful device (accepted ++ more) r
stays_right device accepted more r h = record {
  item = h.item;
  there = get_more accepted more r.place h.item h.there;
  host = h.host;
  serial = h.serial;
  answer = h.answer ∙ ap (λ before. answer_behind device before h.item) (sym (take_of_more accepted more r.place h.item h.there));
}

stay_right : (device : Device) (accepted more : List Item) (rs : List Reply) → Each (IsRightful device accepted) rs → Each (IsRightful device (accepted ++ more)) rs
stay_right device accepted more rs h = Each-map (IsRightful device accepted) (IsRightful device (accepted ++ more)) (stays_right device accepted more) rs h

pub stay_rightful : StaysRightful
stay_rightful device accepted more rs h = record { once = h.once; each = stay_right device accepted more rs h.each }
