use Rattle.std.proofs.Common.{subst}
use Rattle.onfi_steady.specs.Slots.{waiters_in}
use Rattle.onfi_steady.specs.LunBooks.{IsLunOffer}
use Rattle.onfi_steady.proofs.lun_books.LunBooks.renew.Goals as goal

pub returns-then-self-eq0-clause-offer : goal.returns-then-self-eq0-clause-offer
returns-then-self-eq0-clause-offer c = λ timing spans none.
    subst (λ z. IsLunOffer timing c.args.rules.now (waiters_in z) c.of-self.result) c.as_slice.ensures.value (c.of-self.ensures timing spans)
