use Rattle.std.proofs.Common.{◌∙◌, refl}
use Rattle.onfi_run.proofs.Moments.{all_moment_then, all_same_moment}
use Rattle.onfi_run.proofs.simulation.settle.Goals as goal

pub loop-init : goal.loop-init
loop-init g c = (refl, refl, all_same_moment c.args.now c.args.stations.now, λ all. all)

pub loop-preserved : goal.loop-preserved
loop-preserved g c = (
  c.round.ensures.lanes ∙ c.loop.invariant.0,
  c.round.ensures.stations ∙ c.loop.invariant.1,
  all_moment_then c.args.now c.args.stations.now c.loop.stations c.round.new.stations c.loop.invariant.2 c.round.ensures.moments,
  λ all. c.round.ensures.over (c.loop.invariant.3 all),
)

pub returns-then-not-round-clause-rest : goal.returns-then-not-round-clause-rest
returns-then-not-round-clause-rest g c = c.round.ensures.rest c.if-not-round.true

pub returns-then-not-round-clause-wait : goal.returns-then-not-round-clause-wait
returns-then-not-round-clause-wait g c = c.round.ensures.wait c.if-not-round.true

pub returns-then-not-round-clause-moments : goal.returns-then-not-round-clause-moments
returns-then-not-round-clause-moments g c =
    all_moment_then c.args.now c.args.stations.now c.loop.stations c.round.new.stations c.loop.invariant.2 c.round.ensures.moments

pub returns-then-not-round-clause-over : goal.returns-then-not-round-clause-over
returns-then-not-round-clause-over g c all = c.round.ensures.over (c.loop.invariant.3 all)
