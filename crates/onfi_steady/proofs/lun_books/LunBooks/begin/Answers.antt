use Rattle.std.proofs.Common.{subst, sym}
use Rattle.onfi_steady.specs.Slots.{waiters_in}
use Rattle.onfi_steady.specs.LunBooks.{IsLunOffer}
use Rattle.onfi_steady.proofs.lun_books.LunBooks.begin.Goals as goal

pub returns-clause-lun : goal.returns-clause-lun
returns-clause-lun c = λ timing rules spans. record {
  going = c.with_state-self.ensures.going timing spans;
  offered = λ none. subst (λ z. IsLunOffer timing rules (waiters_in z) c.none-self.result) (sym c.clear.ensures) (c.none-self.ensures timing rules spans);
}
