use Rattle.std.proofs.Common.{[], ◌∷◌, ◌++◌}
use Rattle.onfi_core.proofs.history.History.with_collected.Given as goal

abbrev pub ghost-of : goal.ghost-of
ghost-of a = (a._list.now.accepted, a._list.now.held, a._list.now.posted ++ a._more.now ∷ [], a._list.now.lent)
