use Rattle.std.proofs.Common.{inl, inr, sym, subst}
use Rattle.onfi_group.specs.Words.{Has}
use Rattle.onfi_group.proofs.Lists.{Has-get}
use Rattle.onfi_schedule.specs.declared.slot.Slot.{Slot}
use Rattle.onfi_schedule.proofs.Naming.{starts_first, least_more}
use Rattle.onfi_schedule.proofs.turns.first_slot.Goals as goal

pub returns : goal.returns
returns c = λ some. starts_first c.args.slots.now c.loop-slot.slot-index c.loop-slot.first c.loop-slot-test.false (c.loop-slot.invariant.there some) c.loop-slot.invariant.least

pub loop-slot-preserved : goal.loop-slot-preserved
loop-slot-preserved c =
    let slots = c.args.slots.now in
    let i = c.loop-slot.slot-index in
    let slot = c.slot-item.result in
    let here : Has slots slot = subst (λ (z : Slot). Has slots z) (sym c.slot-item.is) (Has-get slots i slot c.loop-slot-test.true) in
    record {
      there = λ some. elim c.pick_sooner-first.ensures.one [
        | inl e ↦ subst (λ (z : Slot). Has slots z) (sym e) (c.loop-slot.invariant.there some)
        | inr e ↦ subst (λ (z : Slot). Has slots z) (sym e) here
      ];
      least = least_more slots i c.loop-slot.first slot c.pick_sooner-first.result c.loop-slot-test.true c.slot-item.is c.pick_sooner-first.ensures.first c.pick_sooner-first.ensures.other c.loop-slot.invariant.least;
    }
