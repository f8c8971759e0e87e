use Rattle.std.proofs.lemmas.Bool.{le-leb}
use Rattle.onfi_calls.proofs.Geometries.{two_cycles}
use Rattle.onfi_calls.proofs.geometry.reach.Goals as goal

pub returns-then-cycles-ge2 : goal.returns-then-cycles-ge2
returns-then-cycles-ge2 c = (λ _. two_cycles c.args.bytes c.args.cycles c.requires c.if-cycles-ge2.true, λ _. le-leb 2 c.args.cycles c.if-cycles-ge2.true)
