use Rattle.std.proofs.Common.{[], None}
use Rattle.onfi_core.proofs.history.History.new.Given as goal

abbrev pub ghost-of : goal.ghost-of
ghost-of a = ([], [], [], None)
