use Rattle.std.proofs.Common.{◌≡◌, false}
use Rattle.onfi_run.specs.Moments.{Acts}
use Rattle.onfi_run.proofs.acts.pass_rows.Given as goal

abbrev pub invariant-loop : goal.invariant-loop
invariant-loop g l =
    (g.A.Channels.queues l.channels ≡ g.A.Channels.queues l.fn.channels)
    × Acts l.course.geometry.now l.course.rows.now l.now l.fn.station l.station
    × (l.any ≡ false → (l.channels ≡ l.fn.channels) × (l.station.ports.items ≡ l.fn.station.ports.items) × (l.station.passed ≡ l.fn.station.passed) × (l.index ≡ 0))
