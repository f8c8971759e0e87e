use Rattle.std.proofs.Common.{◌∙◌, arith}
use Rattle.onfi_problem.proofs.Limits.{bus_in_limits}
use Rattle.onfi_bound.proofs.Parts.{chains_short}
use Rattle.onfi_bound.proofs.Whole.{starts_are}
use Rattle.onfi_bound.proofs.left.Left.lead.Goals as goal

pub first_post-first-requires-clause-bus_free : goal.first_post-first-requires-clause-bus_free
first_post-first-requires-clause-bus_free c = let b = bus_in_limits c.args.problem.now.problem c.requires.limits in omega arith

pub first_post-first-requires-clause-short : goal.first_post-first-requires-clause-short
first_post-first-requires-clause-short c = chains_short c.args.problem.now.problem _ c.requires.limits (c.deref.ensures.0 ∙ c.requires.chains)

pub lead-requires-clause-first : goal.lead-requires-clause-first
lead-requires-clause-first c =
    c.first_post-first.ensures.value ∙ starts_are c.args.problem.now.problem _ _ _ _ _ _ c.timing-timing.ensures c.requires.bus_free c.requires.chains c.requires.wants c.deref.ensures.0 c.deref-2.ensures.0
