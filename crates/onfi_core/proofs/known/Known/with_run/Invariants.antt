use Rattle.onfi_flight.specs.Flight.{move_of}
use Rattle.onfi_core.specs.Steps.{moved}
use Rattle.onfi_core.proofs.known.Known.with_run.Given as goal

abbrev pub ghost-of : goal.ghost-of
ghost-of a = moved a._list.now.books (move_of a._more.now)
