use Rattle.std.proofs.Common.{refl}
use Rattle.onfi_core.proofs.Window.{fields_opened}
use Rattle.onfi_core.proofs.half.Half.open.Goals as goal

pub invariant_of-result : goal.invariant_of-result
invariant_of-result c =
    let n = c.new.ensures in
    fields_opened _ _ _ _ _ _ c.in_ok-slots.ensures.empty c.in_ok-slots.ensures.capacity c.in_ok-held.ensures.capacity c.in_ok-held.ensures.items n.3 (rw (n.0, n.1, n.2, c.in_ok-way.ensures) refl)
