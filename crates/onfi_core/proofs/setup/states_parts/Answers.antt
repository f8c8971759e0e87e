use Rattle.std.proofs.Common.{◌≡◌, true, false, sym, ◌∙◌}
use Rattle.onfi_timing.specs.declared.kind.Kind.TheVariants.{ReadSectors}
use Rattle.onfi_timing.specs.Kinds.{IsStated}
use Rattle.onfi_core.specs.Stated.{StatesParts}
use Rattle.onfi_core.proofs.setup.states_parts.Goals as goal

pub returns-then-not-states : goal.returns-then-not-states
returns-then-not-states c = (
  λ (e : false ≡ true). absurd cc,
  λ (all : StatesParts c.args.geometry.now c.args.timing.now). (
      let stated : IsStated c.args.timing.now (ReadSectors 0 c.loop-count.count) = all (ReadSectors 0 c.loop-count.count) (sym c.has_part.ensures ∙ c.if-has_part.true) in
      let no = c.if-not-states.true in
      let told = c.states.ensures in
      cc),
)
