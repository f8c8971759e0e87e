use Rattle.std.proofs.Common.{subst, sym}
use Rattle.onfi_group.specs.Words.{Has}
use Rattle.onfi_schedule.specs.declared.slot.Slot.{Slot}
use Rattle.onfi_schedule.proofs.bus.find_overlap.Goals as goal
use Rattle.onfi_group.proofs.Lists.{Has-get}

pub returns-then-not-is_apart-clause-there : goal.returns-then-not-is_apart-clause-there
returns-then-not-is_apart-clause-there c =
    let others = c.args.others.now in
    subst (λ (z : Slot). Has others z) (sym c.other-item.is) (Has-get others c.loop-other.other-index c.other-item.result c.loop-other-test.true)
