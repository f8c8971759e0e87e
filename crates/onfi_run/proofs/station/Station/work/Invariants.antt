use Rattle.std.proofs.Common.{◌≡◌, [], take}
use Rattle.onfi_run.specs.Keys.{HasSamePorts}
use Rattle.onfi_run.specs.Sending.{HasSent}
use Rattle.onfi_run.proofs.station.Station.work.Given as goal

abbrev pub invariant-loop : goal.invariant-loop
invariant-loop g l =
    (l.self.number ≡ l.fn.self.number) × HasSamePorts l.fn.self.ports.items l.self.ports.items
    × (HasSent l.geometry [] l.fn.self.number l.fn.self.ports.items
    → HasSent l.geometry (take l.self.passed l.rows) l.fn.self.number l.self.ports.items)
