use Rattle.std.proofs.Common.{◌∙◌}
use Rattle.onfi_steady.specs.Slots.{waiters_in}
use Rattle.onfi_steady.proofs.lun_books.LunOffer.of.Goals as goal

pub returns : goal.returns
returns c = λ timing spans.
    c.of_ready.ensures timing (waiters_in c.args.waiting.now) spans (c.as_slice.ensures.value ∙ c.list_slots-reads.ensures.ready) c.list_slots-reads.ensures.reads
