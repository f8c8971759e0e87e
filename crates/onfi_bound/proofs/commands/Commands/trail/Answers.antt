use Rattle.onfi_bound.proofs.commands.Commands.trail.Goals as goal

pub returns : goal.returns
returns c = c.trail_from.ensures c.args.problem.now.problem c.timing-timing.ensures c.bus_free.ensures.value c.requires
