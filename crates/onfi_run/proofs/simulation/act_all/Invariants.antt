use Rattle.std.proofs.Common.{◌≡◌, false, length, map, take}
use Rattle.std.specs.List.{AllByRecursion as Each}
use Rattle.onfi_run.specs.Keys.{HaveSamePorts}
use Rattle.onfi_run.specs.Moments.{AllAtMoment}
use Rattle.onfi_run.specs.Pace.{lane_key}
use Rattle.onfi_run.specs.Resting.{Rests, ends_by}
use Rattle.onfi_run.proofs.simulation.act_all.Given as goal

abbrev pub invariant-loop-host : goal.invariant-loop-host
invariant-loop-host g l =
    (map (lane_key g.C.Channel.queues) l.lanes.items ≡ map (lane_key g.C.Channel.queues) l.fn.lanes.items)
    × HaveSamePorts l.fn.stations l.stations × AllAtMoment l.now l.fn.stations l.stations × (length l.stations ≡ 4)
    × (l.any ≡ false → (l.lanes ≡ l.fn.lanes) × Each (Rests l.now l.course.rows.now (ends_by (map (λ x. x.pace) l.fn.lanes.items))) (take l.host l.stations))
