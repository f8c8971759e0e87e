-- What a LUN keeps after a change.
use Rattle.std.proofs.Common.{◌≡◌, ◌≤◌, subst, sym}
use Rattle.onfi_timing.specs.declared.timing.Timing.{Timing}
use Rattle.onfi_group.specs.declared.rules.Rules.{Rules}
use Rattle.onfi_steady.specs.declared.line.Line.{Line}
use Rattle.onfi_steady.specs.declared.lun_books.LunBooks.{LunBooks}
use Rattle.onfi_steady.specs.declared.run.Run.{Run}
use Rattle.onfi_steady.specs.Slots.{slots_in, waiters_in}
use Rattle.onfi_steady.specs.LunBooks.{IsGoing, IsLun, IsLunOffer}

pub renewed : (timing : Timing) (rules : Rules) (run : Run) (line : Line) (new : LunBooks) → new.run ≡ run → new.line ≡ line → (1 ≤ run.members → IsGoing timing run) →
    (run.members ≡ 0 → IsLunOffer timing rules (waiters_in (slots_in line)) new.offer) → IsLun timing rules new
renewed timing rules run line new same kept going offer = record {
  going = λ h. subst (IsGoing timing) (sym same) (going (subst (λ (z : Run). 1 ≤ z.members) same h));
  offered = λ none. subst (λ (z : Line). IsLunOffer timing rules (waiters_in (slots_in z)) new.offer) (sym kept) (offer (subst (λ (z : Run). z.members ≡ 0) same none));
}
