-- A bit string has one remainder by the polynomial.
use Rattle.std.proofs.Common.{◌≡◌, ℕ, zero, suc, ◌+◌, ◌*◌, ◌/◌, ◌<◌, ◌≤◌, List, [], ◌∷◌, ◌++◌, length, replicate, refl, sym, ◌∙◌, ap, subst, arith, lit<, lit≤}
use Rattle.std.specs.Int.Bits.{bit_xor, xor_assoc, xor_self, xor_zero_l, xor_zero_r}
use Rattle.std.proofs.lemmas.Nat.{xor_comm, xor_lt, xor_shr}
use Rattle.onfi_param.specs.Crc.{AllBits, IsRemainder, IsCheckValue, number_from, product_from, polynomial, masked, start_bits, bits}
use Rattle.onfi_param.proofs.Division.{double_xor}

-- what is laid over four numbers in pairs
swapped : (a b c d : ℕ) → bit_xor (bit_xor a b) (bit_xor c d) ≡ bit_xor (bit_xor a c) (bit_xor b d)
swapped a b c d =
    xor_assoc a b (bit_xor c d)
    ∙ ap (bit_xor a) (sym (xor_assoc b c d) ∙ ap (λ x. bit_xor x d) (xor_comm b c) ∙ xor_assoc c b d)
    ∙ sym (xor_assoc a c (bit_xor b d))

undone : (a b : ℕ) → bit_xor a (bit_xor a b) ≡ b
undone a b = sym (xor_assoc a a b) ∙ ap (λ x. bit_xor x b) (xor_self a) ∙ xor_zero_l b

-- the divisor stays below what was shifted past it
high_kept : (m b : ℕ) → 65536 ≤ m → b < 2 → 65536 ≤ bit_xor (m * 2) (b * polynomial)
high_kept m b h hb =
    let none : b * polynomial / 131072 ≡ 0 = omega arith in
    let top : bit_xor (m * 2) (b * polynomial) / 131072 ≡ m * 2 / 131072 =
    xor_shr (m * 2) (b * polynomial) 17 ∙ ap (bit_xor (m * 2 / 131072)) none ∙ xor_zero_r (m * 2 / 131072) in
    omega (arith, top)

product_high : (s : List ℕ) (m : ℕ) → 65536 ≤ m → AllBits s → 65536 ≤ product_from m s
unfolding AllBits product_from
product_high [] m h k = h
product_high (b ∷ s) m h k = product_high s (bit_xor (m * 2) (b * polynomial)) (high_kept m b h k.0) k.1

-- a multiple below x^16 is nothing
product_low : (s : List ℕ) → AllBits s → product_from 0 s < 65536 → product_from 0 s ≡ 0
unfolding AllBits product_from
product_low [] k h = refl
product_low (zero ∷ s) k h = product_low s k.1 h
product_low (suc zero ∷ s) k h = absurd (omega (arith, h, product_high s polynomial (lit≤ tt) k.1))
product_low (suc (suc b) ∷ s) k h = absurd (omega (arith, k.0))

-- two bit strings of one length laid over each other
laid : List ℕ → List ℕ → List ℕ
laid [] t = []
laid (b ∷ s) [] = []
laid (b ∷ s) (c ∷ t) = bit_xor b c ∷ laid s t

laid_bits : (s t : List ℕ) → AllBits s → AllBits t → AllBits (laid s t)
unfolding AllBits laid
laid_bits [] t h k = tt
laid_bits (b ∷ s) [] h k = tt
laid_bits (b ∷ s) (c ∷ t) h k = (xor_lt 1 b c h.0 k.0, laid_bits s t h.1 k.1)

digit_xor : (b c : ℕ) → b < 2 → c < 2 → bit_xor (b * polynomial) (c * polynomial) ≡ bit_xor b c * polynomial
digit_xor zero zero h k = refl
digit_xor zero (suc zero) h k = refl
digit_xor (suc zero) zero h k = refl
digit_xor (suc zero) (suc zero) h k = refl
digit_xor (suc (suc b)) c h k = absurd (omega (arith, h))
digit_xor zero (suc (suc c)) h k = absurd (omega (arith, k))
digit_xor (suc zero) (suc (suc c)) h k = absurd (omega (arith, k))

product_xor : (s t : List ℕ) (m n : ℕ) → length s ≡ length t → AllBits s → AllBits t
    → bit_xor (product_from m s) (product_from n t) ≡ product_from (bit_xor m n) (laid s t)
unfolding AllBits product_from laid
product_xor [] [] m n e h k = refl
product_xor [] (c ∷ t) m n e h k = absurd (omega (arith, e))
product_xor (b ∷ s) [] m n e h k = absurd (omega (arith, e))
product_xor (b ∷ s) (c ∷ t) m n e h k =
    product_xor s t (bit_xor (m * 2) (b * polynomial)) (bit_xor (n * 2) (c * polynomial)) (omega (arith, e)) h.1 k.1
    ∙ ap (λ x. product_from x (laid s t)) (
    swapped (m * 2) (b * polynomial) (n * 2) (c * polynomial)
    ∙ ap (bit_xor (bit_xor (m * 2) (n * 2))) (digit_xor b c h.0 k.0)
    ∙ ap (λ x. bit_xor x (bit_xor b c * polynomial)) (sym (double_xor m n))
    )

-- zeros in front
padded : ℕ → List ℕ → List ℕ
padded zero s = s
padded (suc n) s = 0 ∷ padded n s

length-padded : (n : ℕ) (s : List ℕ) → length (padded n s) ≡ n + length s
unfolding padded
length-padded zero s = omega arith
length-padded (suc n) s = omega (arith, length-padded n s)

padded_bits : (n : ℕ) (s : List ℕ) → AllBits s → AllBits (padded n s)
unfolding AllBits padded
padded_bits zero s h = h
padded_bits (suc n) s h = (lit< tt, padded_bits n s h)

product_padded : (n : ℕ) (s : List ℕ) → product_from 0 (padded n s) ≡ product_from 0 s
unfolding product_from padded
product_padded zero s = refl
product_padded (suc n) s = product_padded n s

multiples : (s t : List ℕ) → AllBits s → AllBits t → bit_xor (product_from 0 s) (product_from 0 t) < 65536
    → bit_xor (product_from 0 s) (product_from 0 t) ≡ 0
multiples s t h k low =
    let s' = padded (length t) s in
    let t' = padded (length s) t in
    let size : length s' ≡ length t' = omega (arith, length-padded (length t) s, length-padded (length s) t) in
    let hs = padded_bits (length t) s h in
    let kt = padded_bits (length s) t k in
    let all : bit_xor (product_from 0 s) (product_from 0 t) ≡ product_from 0 (laid s' t') =
    ap (λ x. bit_xor x (product_from 0 t)) (sym (product_padded (length t) s))
    ∙ ap (bit_xor (product_from 0 s')) (sym (product_padded (length s) t))
    ∙ product_xor s' t' 0 0 size hs kt in
    all ∙ product_low (laid s' t') (laid_bits s' t' hs kt) (subst (λ x. x < 65536) all low)

pub one_remainder : (string : List ℕ) (r s : ℕ) → IsRemainder string r → IsRemainder string s → r ≡ s
one_remainder string r s h k =
    let a = product_from 0 h.1 in
    let b = product_from 0 k.1 in
    let n = number_from 0 string in
    let hr : r ≡ bit_xor a n = sym (ap (bit_xor a) h.3 ∙ undone a r) in
    let ks : s ≡ bit_xor b n = sym (ap (bit_xor b) k.3 ∙ undone b s) in
    let both : bit_xor a b ≡ bit_xor r s =
    sym (ap (λ x. bit_xor x s) hr ∙ ap (bit_xor (bit_xor a n)) ks ∙ swapped a n b n ∙ ap (bit_xor (bit_xor a b)) (xor_self n) ∙ xor_zero_r (bit_xor a b)) in
    let low : bit_xor a b < 65536 = subst (λ x. x < 65536) (sym both) (xor_lt 16 r s h.0 k.0) in
    let none : bit_xor r s ≡ 0 = sym both ∙ multiples h.1 k.1 h.2 k.2 low in
    sym (xor_zero_r r) ∙ ap (bit_xor r) (sym none) ∙ undone r s

pub one_check_value : (bytes : List ℕ) (r s : ℕ) → IsCheckValue bytes r → IsCheckValue bytes s → r ≡ s
unfolding IsCheckValue
one_check_value bytes r s h k = one_remainder (masked start_bits (bits bytes ++ replicate 16 0)) r s h k
