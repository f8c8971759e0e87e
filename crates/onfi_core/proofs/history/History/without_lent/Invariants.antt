use Rattle.std.proofs.Common.{None}
use Rattle.onfi_core.proofs.history.History.without_lent.Given as goal

abbrev pub ghost-of : goal.ghost-of
ghost-of a = (a._list.now.accepted, a._list.now.held, a._list.now.posted, None)
