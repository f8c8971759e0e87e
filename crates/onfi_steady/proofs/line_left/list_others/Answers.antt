use Rattle.std.proofs.Common.{◌∙◌, ap, arith, sym}
use Rattle.std.proofs.lemmas.List.{take_all}
use Rattle.onfi_steady.specs.declared.slot.Slot.{Slot}
use Rattle.onfi_steady.specs.Slots.{others_of}
use Rattle.onfi_steady.proofs.Slots.{others_more}
use Rattle.onfi_steady.proofs.line_left.list_others.Goals as goal

abbrev blank : Slot
blank = record { id = 0; block = 0; page = 0; passed = 0; kind = 0; first = 0; count = 0; lun = 0; plane = 0 }

pub loop-slot-preserved : goal.loop-slot-preserved
loop-slot-preserved c = record {
  is = rw (c.put_other.ensures.items, c.loop-slot.invariant.is) (sym (others_more c.args.id c.args.slots.now c.loop-slot.slot-index blank c.loop-slot-test.true));
  few = let more = c.put_other.ensures.few in omega (arith, more, c.loop-slot.invariant.few);
}

pub returns : goal.returns
returns c = c.loop-slot.invariant.is ∙ ap (others_of c.args.id) (take_all c.loop-slot.slot-index c.args.slots.now c.loop-slot-test.false)
