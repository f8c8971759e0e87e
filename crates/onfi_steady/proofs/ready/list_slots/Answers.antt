use Rattle.std.proofs.Common.{◌∙◌, ap, arith, sym}
use Rattle.std.specs.List.{list_any}
use Rattle.std.proofs.lemmas.List.{take_all}
use Rattle.onfi_timing.specs.declared.kind.Kind.TheVariants.{Read}
use Rattle.onfi_steady.specs.declared.slot.Slot.{Slot}
use Rattle.onfi_steady.specs.Offer.{firsts, is_kind}
use Rattle.onfi_steady.specs.Slots.{waiters_in}
use Rattle.onfi_steady.proofs.Slots.{firsts_more, reads_now, reads_still}
use Rattle.onfi_steady.proofs.ready.list_slots.Goals as goal
use Rattle.onfi_steady.proofs.ready.list_slots.Goals.{then-put_first, else-put_first}

abbrev blank : Slot
blank = record { id = 0; block = 0; page = 0; passed = 0; kind = 0; first = 0; count = 0; lun = 0; plane = 0 }

pub loop-slot-preserved : goal.loop-slot-preserved
loop-slot-preserved o c =
    let waiting = c.args.waiting.now in
    let i = c.loop-slot.slot-index in
    let test = c.loop-slot-test.true in
    record {
      is = rw (c.put_first.ensures.items, c.waiter.ensures, c.loop-slot.invariant.is) (sym (firsts_more waiting i blank test));
      few = let a = c.put_first.ensures.few in let b = c.loop-slot.invariant.few in omega arith;
      reads = elim c.if-put_first.branch [
        | then-put_first w ↦ w.reads-is ∙ sym (reads_now waiting i blank test (sym (c.put_first.ensures.read ∙ ap (is_kind Read) c.waiter.ensures) ∙ w.if-put_first.true))
        | else-put_first w ↦ w.reads-is ∙ (c.loop-slot.invariant.reads ∙ sym (reads_still waiting i blank test (sym (c.put_first.ensures.read ∙ ap (is_kind Read) c.waiter.ensures) ∙ w.if-put_first.false)))
      ];
    }

pub returns-clause-ready : goal.returns-clause-ready
returns-clause-ready o c = c.loop-slot.invariant.is ∙ ap (λ z. firsts (waiters_in z)) (take_all c.loop-slot.slot-index c.args.waiting.now c.loop-slot-test.false)

pub returns-clause-reads : goal.returns-clause-reads
returns-clause-reads o c = c.loop-slot.invariant.reads ∙ ap (λ z. list_any (is_kind Read) (waiters_in z)) (take_all c.loop-slot.slot-index c.args.waiting.now c.loop-slot-test.false)
