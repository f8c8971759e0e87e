use Rattle.std.proofs.Common.{arith}
use Rattle.onfi_core.proofs.Lending.{room_back}
use Rattle.onfi_core.proofs.half.Half.keep.Goals as goal

pub unwrap-requires : goal.unwrap-requires
unwrap-requires c =
    let w = c.in-Some.is in
    let f = rw w at c.self.invariant in
    let room = room_back _ _ _ _ _ c.in-Some.lent _ _ f in
    c.insert.ensures.succeeds (omega (arith, room.0, c.self.inside.held.ok.0))
