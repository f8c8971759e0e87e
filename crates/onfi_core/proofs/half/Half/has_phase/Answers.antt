use Rattle.std.proofs.Common.{◌≡◌, ◌↔◌, false, subst}
use Rattle.std.specs.Prelude.{IsTrue, not}
use Rattle.onfi_core.specs.Steps.{none_left}
use Rattle.onfi_core.specs.View.{HalfView}
use Rattle.onfi_core.proofs.Becoming.{phase_there}
use Rattle.onfi_core.proofs.half.Half.has_phase.Goals as goal

pub returns : goal.returns
returns c =
    let P : HalfView → Type 0 = λ v. IsTrue (not c.is_done.result) ↔ (none_left v.state ≡ false) in
    subst P c.self.view_is (phase_there c.self.inside.setup _ c.self.invariant.sound c.is_done.result c.is_done.ensures)
