use Rattle.std.proofs.Common.{◌++◌, None}
use Rattle.std.specs.Prelude.{option_to_list}
use Rattle.onfi_core.proofs.history.History.with_posted.Given as goal

abbrev pub ghost-of : goal.ghost-of
ghost-of a = (a._list.now.accepted, a._more.now.items, a._list.now.posted ++ option_to_list a._list.now.lent, None)
