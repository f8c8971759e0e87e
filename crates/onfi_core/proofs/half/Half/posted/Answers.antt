use Rattle.std.proofs.Common.{◌≡◌, Some, ◌∙◌}
use Rattle.onfi_core.proofs.Lending.{lent_slot, fields_posted}
use Rattle.onfi_core.proofs.half.Half.posted.Goals as goal

pub unreachable-requires-in_default-find : goal.unreachable-requires-in_default-find
unreachable-requires-in_default-find c =
    let w = c.in-Some.is in
    let f = rw w at c.self.invariant in
    let h = lent_slot _ _ _ _ _ c.in-Some.lent _ _ f in
    c.in_default-find.ensures h.0 h.1 h.2 h.3 h.4

pub invariant_of-self : goal.invariant_of-self
invariant_of-self c =
    let w = c.in-Some.is in
    let f = rw w at c.self.invariant in
    let (slot, here, place) = c.in-Some-find.ensures in
    let r = c.try_remove.ensures in
    let e = c.with_posted-self-inside.ensures in
    let gone : c.try_remove.result ≡ Some slot = r.value ∙ here in
    let len = rw gone at r.len in
    fields_posted _ _ _ _ _ c.in-Some-find.key slot _ c.in-Some.lent _ _ _ _ _ _ f here place r.updates r.capacity len e.0 e.1 e.2 e.3
