use Rattle.std.proofs.Common.{◌≡◌, false, length, map, take}
use Rattle.std.specs.List.{AllByRecursion as Each}
use Rattle.onfi_run.specs.Pace.{EndsWithin, Waits}
use Rattle.onfi_run.proofs.simulation.turn_all.Given as goal

abbrev pub invariant-loop-channel : goal.invariant-loop-channel
invariant-loop-channel g l =
    (map (λ x. g.C.Channel.queues x.channel) l.lanes.items ≡ map (λ x. g.C.Channel.queues x.channel) l.fn.lanes.items)
    × (length l.lanes.items ≡ length l.fn.lanes.items)
    × (Each (EndsWithin g.C.Channel.queues) l.fn.lanes.items → Each (EndsWithin g.C.Channel.queues) l.lanes.items)
    × (l.any ≡ false → (l.lanes.items ≡ l.fn.lanes.items) × Each (λ x. Waits l.now x.pace (g.C.Channel.free x.channel)) (take l.channel l.fn.lanes.items))
