use Rattle.std.proofs.Common.{List, refl, subst, sym}
use Rattle.onfi_group.specs.Words.{Has}
use Rattle.onfi_group.proofs.Lists.{Has-map}
use Rattle.onfi_schedule.specs.Names.{Named, named}
use Rattle.onfi_schedule.specs.Slots.{named_slot}
use Rattle.onfi_schedule.specs.Tells.{Starts}
use Rattle.onfi_schedule.proofs.Twos.{any_has, item_has}
use Rattle.onfi_schedule.proofs.bus.too_early.Goals as goal

pub returns-then-slot-bus_free-clause-told : goal.returns-then-slot-bus_free-clause-told
returns-then-slot-bus_free-clause-told c = λ p s eb e.
    let slots = c.args.slots.now in
    let slot = c.slot-item.result in
    let here = item_has slots slots c.loop-slot.slot-index slot c.slot-item.is c.loop-slot-test.true refl in
    let there = subst (λ (xs : List Named). Has xs (named_slot slot)) (sym e) (Has-map named_slot slots slot here) in
    (any_has (Starts slot.name slot.phase.start) (named p s) (named_slot slot) there (refl, refl), sym eb, c.if-slot-bus_free.true)
