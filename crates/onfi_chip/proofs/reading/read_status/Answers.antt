use Rattle.onfi_chip.proofs.Told.{one_told}
use Rattle.onfi_chip.proofs.reading.read_status.Goals as goal

pub returns-clause-answer : goal.returns-clause-answer
returns-clause-answer g c post left h = one_told c.in-Ok.byte c.in-Some.answer post.answer c.in-Some.ensures.1 (c.in-Ok.ensures.ready c.in-Some.ensures.0 post left h).0

pub returns-clause-done : goal.returns-clause-done
returns-clause-done g c post left h = (c.in-Ok.ensures.ready c.in-Some.ensures.0 post left h).1
