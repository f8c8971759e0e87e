use Rattle.std.proofs.Common.{subst, arith}
use Rattle.std.specs.List.{AllByRecursion as Each}
use Rattle.std.specs.Vec.Iter.{into_iter_items, into_iter_len}
use Rattle.onfi_core.specs.Queues.{IsFresh}
use Rattle.onfi_core.proofs.Cores.{none_left, opened_all, opened_more}
use Rattle.onfi_core.proofs.machine.open_channels.Goals as goal

pub loop-chip-preserved : goal.loop-chip-preserved
loop-chip-preserved g c =
    let inv = c.loop-chip.invariant in
    let items = c.in-Some.ensures.items in
    let opened = opened_more g.C.Chip.state c.args.setup c.args.chips.items (into_iter_items c.loop-chip.left) (into_iter_items c.next.new.self) c.loop-chip.channels.items c.in-Some.chip c.in_ok-open.field-0 inv.opened items c.in_ok-open.ensures.0 c.in_ok-open.ensures.1 in
    let fresh = subst (Each (λ chip. IsFresh c.args.setup (g.C.Chip.state chip))) items inv.fresh in
    let push = c.push_reserved.ensures.items in
    record {
      opened = rw push opened;
      fresh = fresh.1;
      room = omega (arith, inv.room, c.in-Some.ensures.len, c.push_reserved.ensures.len, c.push_reserved.ensures.capacity, c.push_reserved.new.self.ok.0, c.loop-chip.channels.ok.0);
    }

pub returns : goal.returns
returns g c =
    let none = none_left (into_iter_len c.loop-chip.left) (into_iter_items c.loop-chip.left) c.in_default.ensures.variant.1 c.loop-chip.left.rest.ok.0 in
    opened_all g.C.Chip.state c.args.setup c.args.chips.items (into_iter_items c.loop-chip.left) c.loop-chip.channels.items c.loop-chip.invariant.opened none
