use Rattle.std.proofs.Common.{◌≡◌, ℕ, ◌<◌, length, subst}
use Rattle.std.specs.Prelude.{IsTrue}
use Rattle.onfi_group.specs.Words.{number}
use Rattle.onfi_core.specs.Kept.{is_of_place}
use Rattle.onfi_core.specs.View.{HalfView}
use Rattle.onfi_core.proofs.Counting.{each_when}
use Rattle.onfi_core.proofs.half.Half.is_answered.Goals as goal

pub returns-clause-each : goal.returns-clause-each
returns-clause-each c =
    let i = c.self.invariant in
    let P : HalfView → Type 0 = λ v. IsTrue c.is_empty.result → (place : ℕ) → place < length v.state.accepted → number (is_of_place place) v.state.posted ≡ 1 in
    subst P c.self.view_is (each_when _ c.self.inside.slots _ i.sound i.slots_are c.is_empty.result c.is_empty.ensures)
