-- How many bits a count needs.
use Rattle.std.proofs.Common.{◌≡◌, ℕ, ◌+◌, ◌-◌, ◌*◌, ◌^◌, ◌<◌, ◌≤◌, inl, inr, arith, add-one, ap, ◌∙◌}
use Rattle.std.proofs.Math.Pow.{pow_mono}
use Rattle.std.proofs.Math.Nat.{pow-suc}
use Rattle.std.proofs.lemmas.Bool.{cases_lt}
use Rattle.onfi_addr.specs.Bits.{IsBitCount}

-- one more than the logarithm of what is one less
pub bit_count : (count log : ℕ) → 2 ≤ count → 2 ^ log ≤ count - 1 → count - 1 < 2 * 2 ^ log → IsBitCount count (log + 1)
bit_count count log some low high =
    let twice : 2 ^ (log + 1) ≡ 2 ^ log * 2 = ap (λ n. 2 ^ n) (add-one log) ∙ pow-suc 2 log in
    record {
      enough = omega (arith, twice);
      least = λ fewer h. elim (cases_lt fewer (log + 1)) [
        | inl below ↦
            let within : fewer ≤ log = omega arith in
            absurd (omega (arith, pow_mono within, h))
        | inr over ↦ over
      ];
    }
