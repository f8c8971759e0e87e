use Rattle.std.proofs.Common.{◌≡◌, map}
use Rattle.std.specs.List.{AllByRecursion as Each}
use Rattle.onfi_run.specs.Pace.{EndsWithin}
use Rattle.onfi_run.specs.Keys.{HaveSamePorts}
use Rattle.onfi_run.proofs.simulation.simulate.Given as goal

abbrev pub invariant-loop : goal.invariant-loop
invariant-loop g l =
    (map (λ x. g.C.Channel.queues x.channel) l.lanes.items ≡ map (λ x. g.C.Channel.queues x.channel) l.fn.lanes.items)
    × HaveSamePorts l.fn.stations l.stations
    × (Each (EndsWithin g.C.Channel.queues) l.fn.lanes.items → Each (EndsWithin g.C.Channel.queues) l.lanes.items)
