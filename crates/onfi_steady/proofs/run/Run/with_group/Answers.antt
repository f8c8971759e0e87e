use Rattle.std.proofs.Common.{◌∙◌, ap, sym}
use Rattle.onfi_steady.specs.Ranks.{oldest}
use Rattle.onfi_steady.proofs.run.Run.with_group.Goals as goal

pub returns-clause-going : goal.returns-clause-going
returns-clause-going c = λ timing spans. c.standing.ensures.going timing spans (c.oldest-least.ensures ∙ ap oldest (sym c.slots_of-member.ensures.members))
