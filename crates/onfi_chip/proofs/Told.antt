-- What a status byte says of the answer.
use Rattle.std.proofs.Common.{◌≡◌, ◌≢◌, ℕ, ◌^◌, ◌⊎◌, inl, inr, sym, ◌∙◌, arith}
use Rattle.std.specs.Prelude.{◌==◌, bit_and}
use Rattle.std.proofs.lemmas.Bool.{cases_Bool}
use Rattle.std.proofs.lemmas.Bool.Decides.{nat_tests}
use Rattle.onfi_request.specs.declared.answer.Answer.{Answer}
use Rattle.onfi_chip.specs.Calls.{TellsAnswer}

is_zero : (n : ℕ) → (n ≡ 0) ⊎ (n ≢ 0)
is_zero n =
    elim (cases_Bool (n == 0)) [
      | inl t ↦ inl (grind (arith, nat_tests))
      | inr f ↦ inr (λ e. let e' : n ≡ 0 = e in grind (arith, nat_tests))
    ]

-- a status byte gives one answer
pub one_told : (byte : ℕ) (a b : Answer) → TellsAnswer byte a → TellsAnswer byte b → a ≡ b
one_told byte a b ha hb =
    elim (is_zero (bit_and byte (2 ^ 0))) [
      | inl e ↦ ha.done (λ n. n e) ∙ sym (hb.done (λ n. n e))
      | inr n ↦ ha.failed n ∙ sym (hb.failed n)
    ]
