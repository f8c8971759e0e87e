use Rattle.onfi_steady.specs.Waiting.{accepted}
use Rattle.onfi_core.proofs.known.Known.with_accepted.Given as goal

abbrev pub ghost-of : goal.ghost-of
ghost-of a = accepted a._list.now.books a._more.now
