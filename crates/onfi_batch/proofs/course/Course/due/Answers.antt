use Rattle.std.proofs.Common.{ap, refl, subst}
use Rattle.onfi_flight.specs.Flight.{Tells}
use Rattle.onfi_core.specs.Steps.{is_empty}
use Rattle.onfi_core.proofs.Halves.{sound_flight}
use Rattle.onfi_batch.specs.Course.{state_of}
use Rattle.onfi_batch.proofs.course.Course.due.Goals as goal

pub unreachable-requires : goal.unreachable-requires
unreachable-requires c = c.due.ensures.legal (sound_flight c.requires.sound.0 (state_of c.args.self.now) c.requires.sound.1 refl) c.in-Illegal.is

pub returns-in-Due-clause-due : goal.returns-in-Due-clause-due
returns-in-Due-clause-due c = subst (Tells c.args.self.now.flight) c.in-Due.is c.due.ensures.tells

pub returns-in-Done-clause-none : goal.returns-in-Done-clause-none
returns-in-Done-clause-none c = ap is_empty ((c.due.ensures.done (sound_flight c.requires.sound.0 (state_of c.args.self.now) c.requires.sound.1 refl)).0 c.in-Done.is)
