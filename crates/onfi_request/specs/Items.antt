-- Items and replies by their hosts.
use Rattle.std.specs.Prelude.{ℕ, ◌==◌, Bool, List}
use Rattle.std.specs.List.{filter}
use Rattle.onfi_request.specs.declared.request.Item.{Item}
use Rattle.onfi_request.specs.declared.reply.Reply.{Reply}

abbrev pub is_from : ℕ → Item → Bool
is_from host x = x.host == host

abbrev pub is_to : ℕ → Reply → Bool
is_to host r = r.host == host

-- the items of one host, in order
abbrev pub items_from : ℕ → List Item → List Item
items_from host items = filter (is_from host) items
