use Rattle.std.specs.Prelude.{IfSome}
use Rattle.onfi_chip.specs.Chip.{Chip}
use Rattle.onfi_core.specs.Steps.{IsPromised}
use Rattle.onfi_core.proofs.Reaching.{events_reach}
use Rattle.onfi_seq.specs.Driver.{DriverFields}
use Rattle.onfi_seq.proofs.Driving.{outside}
use Rattle.onfi_seq.proofs.driver.Driver.half.Goals as goal

pub returns-clause-promised : goal.returns-clause-promised
returns-clause-promised g c =
    let such = IsPromised g.P.Planner.exact g.P.Planner.certifies in
    outside g.C.Chip.state (λ (v : DriverFields) (chip : Chip). IfSome v.half.last such) _ _ c.self.view_is (events_reach such c.self.inside.half.setup _ c.self.invariant.reached).1
