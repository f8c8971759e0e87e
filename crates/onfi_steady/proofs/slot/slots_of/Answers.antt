use Rattle.onfi_steady.proofs.Slots.{members_of_four}
use Rattle.onfi_steady.proofs.slot.slots_of.Goals as goal

pub returns-clause-members : goal.returns-clause-members
returns-clause-members c =
    members_of_four c.args.members.now c.slot_at.result c.slot_at-2.result c.slot_at-3.result c.slot_at-4.result c.requires
    c.slot_at.ensures c.slot_at-2.ensures c.slot_at-3.ensures c.slot_at-4.ensures
