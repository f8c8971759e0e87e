use Rattle.std.proofs.Common.{◌++◌}
use Rattle.std.specs.Prelude.{option_to_list}
use Rattle.onfi_core.proofs.history.History.with_held.Given as goal

abbrev pub ghost-of : goal.ghost-of
ghost-of a = (a._list.now.accepted, a._list.now.held ++ option_to_list a._more.now, a._list.now.posted, a._list.now.lent)
