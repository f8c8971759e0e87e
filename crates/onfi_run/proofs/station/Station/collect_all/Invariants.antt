use Rattle.std.proofs.Common.{◌≡◌, false, take}
use Rattle.std.specs.List.{AllByRecursion as Each}
use Rattle.onfi_run.specs.Keys.{SendsNothing}
use Rattle.onfi_run.specs.Moments.{AtMoment}
use Rattle.onfi_run.specs.Resting.{IsEmptied}
use Rattle.onfi_run.proofs.station.Station.collect_all.Given as goal

abbrev pub invariant-loop-channel : goal.invariant-loop-channel
invariant-loop-channel g l =
    (l.self.number ≡ l.fn.self.number) × (l.self.passed ≡ l.fn.self.passed) × SendsNothing l.fn.self.ports.items l.self.ports.items
    × (l.self.short_of_memory ≡ l.fn.self.short_of_memory) × AtMoment l.now l.fn.self.ports.items l.self.ports.items
    × (l.any ≡ false → (l.self.ports.items ≡ l.fn.self.ports.items) × Each IsEmptied (take l.channel l.fn.self.ports.items))
