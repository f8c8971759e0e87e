use Rattle.std.proofs.Common.{Some}
use Rattle.onfi_core.proofs.history.History.with_lent.Given as goal

abbrev pub ghost-of : goal.ghost-of
ghost-of a = (a._list.now.accepted, a._list.now.held, a._list.now.posted, Some a._more.now)
