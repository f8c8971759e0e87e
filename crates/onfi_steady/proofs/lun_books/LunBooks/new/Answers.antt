use Rattle.std.proofs.Common.{arith, subst, sym}
use Rattle.onfi_steady.specs.Slots.{waiters_in}
use Rattle.onfi_steady.specs.LunBooks.{IsLunOffer}
use Rattle.onfi_steady.proofs.lun_books.LunBooks.new.Goals as goal

pub returns-clause-lun : goal.returns-clause-lun
returns-clause-lun c = λ timing rules spans. record {
  going = λ h. let none = c.free.ensures.members in absurd (omega arith);
  offered = λ none. subst (λ z. IsLunOffer timing rules (waiters_in z) c.none.result) (sym c.new.ensures) (c.none.ensures timing rules spans);
}
