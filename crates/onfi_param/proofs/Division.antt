-- Dividing bit by bit from the front and shifting bytes through a register leave the same.
use Rattle.std.proofs.Common.{◌≡◌, ℕ, zero, suc, ◌+◌, ◌*◌, ◌/◌, ◌%◌, ◌<◌, ◌≤◌, inl, inr, cond, List, [], ◌∷◌, ◌++◌, length, replicate, refl, sym, ◌∙◌, ap, arith, add-one, add-zero, drop, drop-cons, get_or, length-append, lit<}
use Rattle.std.specs.Prelude.{⊤}
use Rattle.std.specs.Int.Bits.{bit_xor, xor_assoc, xor_self, xor_shifted, xor_zero_l, xor_zero_r}
use Rattle.std.proofs.lemmas.Nat.{xor_comm, xor_lt, xor_shr, xor_block}
use Rattle.std.proofs.lemmas.Bool.{cases_lt, lt-ltb, le-ltb}
use Rattle.onfi_param.specs.Crc.{AllBits, IsRemainder, IsCheckValue, number_from, product_from, byte_bits, bits, masked, polynomial, start_bits}
use Rattle.onfi_param.specs.Register.{reduced, idle, after_byte}

-- long division, from the highest bit on: what is left so far, with the next bit brought down
unfoldable pub remainder_from : ℕ → List ℕ → ℕ
remainder_from left [] = left
remainder_from left (b ∷ string) = remainder_from (reduced (left * 2 + b)) string

-- what long division leaves of a bit string
abbrev pub remainder : List ℕ → ℕ
remainder string = remainder_from 0 string

-- what long division leaves of the bytes
abbrev pub crc_of : List ℕ → ℕ
crc_of bytes = remainder (masked start_bits (bits bytes ++ replicate 16 0))

-- the register after bytes
unfoldable pub after_bytes : ℕ → List ℕ → ℕ
after_bytes left [] = left
after_bytes left (byte ∷ bytes) = after_bytes (after_byte left byte) bytes

abbrev zeros : List ℕ
zeros = replicate 16 0

pub reduced_low : (n : ℕ) → n < 65536 → reduced n ≡ n
reduced_low n h = ap (λ b. cond b n (bit_xor n polynomial)) (lt-ltb n 65536 h)

pub reduced_high : (n : ℕ) → 65536 ≤ n → reduced n ≡ bit_xor n polynomial
reduced_high n h = ap (λ b. cond b n (bit_xor n polynomial)) (le-ltb n 65536 h)

-- the bit above the register
top_xor : (m n : ℕ) → bit_xor m n / 65536 ≡ bit_xor (m / 65536) (n / 65536)
top_xor m n = xor_shr m n 16

reduced_mixed : (m n : ℕ) → m < 65536 → 65536 ≤ n → n < 131072 → reduced (bit_xor m n) ≡ bit_xor (reduced m) (reduced n)
reduced_mixed m n hm lo hn =
    let em : m / 65536 ≡ 0 = omega arith in
    let en : n / 65536 ≡ 1 = omega arith in
    let top : bit_xor m n / 65536 ≡ 1 = top_xor m n ∙ rw (em, en) refl in
    let high : 65536 ≤ bit_xor m n = omega (arith, top) in
    reduced_high (bit_xor m n) high ∙ xor_assoc m n polynomial ∙ sym (rw (reduced_low m hm, reduced_high n lo) refl)

pub reduced_xor : (m n : ℕ) → m < 131072 → n < 131072 → reduced (bit_xor m n) ≡ bit_xor (reduced m) (reduced n)
reduced_xor m n hm hn =
    elim (cases_lt m 65536) [
      | inl a ↦ elim (cases_lt n 65536) [
        | inl b ↦ reduced_low (bit_xor m n) (xor_lt 16 m n a b) ∙ sym (rw (reduced_low m a, reduced_low n b) refl)
        | inr b ↦ reduced_mixed m n a b hn
      ]
      | inr a ↦ elim (cases_lt n 65536) [
        | inl b ↦ ap reduced (xor_comm m n) ∙ reduced_mixed n m b a hm ∙ xor_comm (reduced n) (reduced m)
        | inr b ↦
            let em : m / 65536 ≡ 1 = omega arith in
            let en : n / 65536 ≡ 1 = omega arith in
            let top : bit_xor m n / 65536 ≡ 0 = top_xor m n ∙ rw (em, en) refl in
            let low : bit_xor m n < 65536 = omega (arith, top) in
            let twice : bit_xor polynomial (bit_xor n polynomial) ≡ n =
            ap (bit_xor polynomial) (xor_comm n polynomial) ∙ sym (xor_assoc polynomial polynomial n) ∙ ap (λ x. bit_xor x n) (xor_self polynomial) ∙ xor_zero_l n in
            reduced_low (bit_xor m n) low
            ∙ sym (rw (reduced_high m a, reduced_high n b) (xor_assoc m polynomial (bit_xor n polynomial) ∙ ap (bit_xor m) twice))
      ]
    ]

pub reduced_lt : (n : ℕ) → n < 131072 → reduced n < 65536
reduced_lt n h =
    elim (cases_lt n 65536) [
      | inl a ↦ rw (reduced_low n a) a
      | inr a ↦
          let en : n / 65536 ≡ 1 = omega arith in
          let top : bit_xor n polynomial / 65536 ≡ 0 = top_xor n polynomial ∙ rw (en) refl in
          rw (reduced_high n a) (omega (arith, top))
    ]

-- one bit brought down
abbrev step : ℕ → ℕ → ℕ
step r b = reduced (r * 2 + b)

step_xor : (r s b c : ℕ) → r < 65536 → s < 65536 → b < 2 → c < 2 → step (bit_xor r s) (bit_xor b c) ≡ bit_xor (step r b) (step s c)
step_xor r s b c hr hs hb hc = ap reduced (sym (xor_block 1 r s b c hb hc)) ∙ reduced_xor (r * 2 + b) (s * 2 + c) (omega arith) (omega arith)

pub double_xor : (r s : ℕ) → bit_xor r s * 2 ≡ bit_xor (r * 2) (s * 2)
double_xor r s = sym (
    ap (λ x. bit_xor x (s * 2)) (sym (add-zero (r * 2)))
    ∙ ap (bit_xor (r * 2 + 0)) (sym (add-zero (s * 2)))
    ∙ xor_block 1 r s 0 0 (lit< tt) (lit< tt)
    ∙ add-zero (bit_xor r s * 2)
    )

shift_xor : (r s : ℕ) → r < 65536 → s < 65536 → reduced (bit_xor r s * 2) ≡ bit_xor (reduced (r * 2)) (reduced (s * 2))
shift_xor r s hr hs = ap reduced (double_xor r s) ∙ reduced_xor (r * 2) (s * 2) (omega arith) (omega arith)

shift_lt : (r : ℕ) → r < 65536 → reduced (r * 2) < 65536
shift_lt r h = reduced_lt (r * 2) (omega arith)

pub idle_lt : (n r : ℕ) → r < 65536 → idle r n < 65536
unfolding idle
idle_lt zero r h = h
idle_lt (suc n) r h = idle_lt n (reduced (r * 2)) (shift_lt r h)

idle_xor : (n r s : ℕ) → r < 65536 → s < 65536 → idle (bit_xor r s) n ≡ bit_xor (idle r n) (idle s n)
unfolding idle
idle_xor zero r s hr hs = refl
idle_xor (suc n) r s hr hs = ap (λ x. idle x n) (shift_xor r s hr hs) ∙ idle_xor n (reduced (r * 2)) (reduced (s * 2)) (shift_lt r hr) (shift_lt s hs)

idle_last : (n r : ℕ) → idle (reduced (r * 2)) n ≡ reduced (idle r n * 2)
unfolding idle
idle_last zero r = refl
idle_last (suc n) r = idle_last n (reduced (r * 2))

idle_behind : (s z : List ℕ) (r : ℕ) → idle r (length (s ++ z)) ≡ idle (idle r (length z)) (length s)
unfolding idle
idle_behind [] z r = refl
idle_behind (b ∷ s) z r = idle_behind s z (reduced (r * 2)) ∙ ap (λ x. idle x (length s)) (idle_last (length z) r)

bits_then : (s t : List ℕ) → AllBits s → AllBits t → AllBits (s ++ t)
unfolding AllBits
bits_then [] t h k = k
bits_then (b ∷ s) t h k = (h.0, bits_then s t h.1 k)

zeros_are_bits : (n : ℕ) → AllBits (replicate n 0)
unfolding AllBits
zeros_are_bits zero = tt
zeros_are_bits (suc n) = (lit< tt, zeros_are_bits n)

-- what is left may be split
apart : (s : List ℕ) (r t : ℕ) → r < 65536 → t < 65536 → AllBits s → remainder_from (bit_xor r t) s ≡ bit_xor (idle r (length s)) (remainder_from t s)
unfolding idle remainder_from AllBits
apart [] r t hr ht h = refl
apart (b ∷ s) r t hr ht h =
    ap (λ x. remainder_from x s) (
    ap (λ x. reduced (bit_xor r t * 2 + x)) (sym (xor_zero_l b))
    ∙ step_xor r t 0 b hr ht (omega arith) h.0
    ∙ ap (λ x. bit_xor (reduced x) (reduced (t * 2 + b))) (add-zero (r * 2))
    )
    ∙ apart s (reduced (r * 2)) (reduced (t * 2 + b)) (shift_lt r hr) (reduced_lt (t * 2 + b) (omega (arith, h.0))) h.1

under_mask : (mask s : List ℕ) (r t n : ℕ) → r < 65536 → t < 65536 → AllBits mask → AllBits s → length s ≡ length mask + n
    → remainder_from (bit_xor r t) (masked mask s) ≡ bit_xor (idle (remainder_from r mask) n) (remainder_from t s)
unfolding idle remainder_from masked AllBits
under_mask [] s r t n hr ht hm hs e =
    let same : length s ≡ n = omega (arith, e) in
    apart s r t hr ht hs ∙ ap (λ k. bit_xor (idle r k) (remainder_from t s)) same
under_mask (m ∷ mask) [] r t n hr ht hm hs e = absurd (omega (arith, e))
under_mask (m ∷ mask) (b ∷ s) r t n hr ht hm hs e =
    ap (λ x. remainder_from x (masked mask s)) (step_xor r t m b hr ht hm.0 hs.0)
    ∙ under_mask mask s (reduced (r * 2 + m)) (reduced (t * 2 + b)) n (reduced_lt (r * 2 + m) (omega (arith, hm.0))) (reduced_lt (t * 2 + b) (omega (arith, hs.0))) hm.1 hs.1 (omega (arith, e))

-- the register, fed with bits at its top
abbrev fed : ℕ → List ℕ → ℕ
fed r [] = r
fed r (b ∷ s) = fed (reduced (bit_xor r (b * 32768) * 2)) s

one_bit : (b : ℕ) → b < 2 → idle b 16 ≡ reduced (b * 32768 * 2)
unfolding idle
one_bit zero h = refl
one_bit (suc zero) h = refl
one_bit (suc (suc b)) h = absurd (omega (arith, h))

behind_zeros : (s : List ℕ) (r : ℕ) → r < 65536 → AllBits s → bit_xor (idle r (length s)) (remainder_from 0 (s ++ zeros)) ≡ fed r s
unfolding idle remainder_from AllBits
behind_zeros [] r hr h = xor_zero_r r
behind_zeros (b ∷ s) r hr h =
    let hb : b < 2 = h.0 in
    let top : b * 32768 < 65536 = omega arith in
    let rest = remainder_from 0 (s ++ zeros) in
    let alone : 0 * 2 + b ≡ b = omega arith in
    let first : reduced (0 * 2 + b) ≡ b = ap reduced alone ∙ reduced_low b (omega arith) in
    let parts : remainder_from b (s ++ zeros) ≡ bit_xor (idle (reduced (b * 32768 * 2)) (length s)) rest =
    ap (λ x. remainder_from x (s ++ zeros)) (sym (xor_zero_r b))
    ∙ apart (s ++ zeros) b 0 (omega arith) (omega arith) (bits_then s zeros h.1 (zeros_are_bits 16))
    ∙ ap (λ x. bit_xor x rest) (idle_behind s zeros b ∙ ap (λ x. idle x (length s)) (one_bit b hb)) in
    ap (bit_xor (idle (reduced (r * 2)) (length s))) (ap (λ x. remainder_from x (s ++ zeros)) first ∙ parts)
    ∙ sym (xor_assoc (idle (reduced (r * 2)) (length s)) (idle (reduced (b * 32768 * 2)) (length s)) rest)
    ∙ ap (λ x. bit_xor x rest) (sym (idle_xor (length s) (reduced (r * 2)) (reduced (b * 32768 * 2)) (shift_lt r hr) (shift_lt (b * 32768) top)) ∙ ap (λ x. idle x (length s)) (sym (shift_xor r (b * 32768) hr top)))
    ∙ behind_zeros s (reduced (bit_xor r (b * 32768) * 2)) (shift_lt (bit_xor r (b * 32768)) (xor_lt 16 r (b * 32768) hr top)) h.1

-- the same, as a step of `fed`: r is what is kept once v is laid over it
fed_one : (q b w v x : ℕ) (s : List ℕ) → q < 65536 → v < 65536 → b < 2 → w < 32768 → v ≡ b * 32768 + w → x ≡ w * 2
    → fed (bit_xor q v) (b ∷ s) ≡ fed (bit_xor (reduced (q * 2)) x) s
fed_one q b w v x s hq hv hb hw ev ex =
    let top : b * 32768 < 65536 = omega arith in
    let low : w < 65536 = omega arith in
    let again : bit_xor v (b * 32768) ≡ w =
    ap (λ n. bit_xor n (b * 32768)) (ev ∙ sym (xor_shifted b 15 w hw) ∙ xor_comm (b * 32768) w)
    ∙ xor_assoc w (b * 32768) (b * 32768) ∙ ap (bit_xor w) (xor_self (b * 32768)) ∙ xor_zero_r w in
    ap (λ n. fed (reduced (n * 2)) s) (xor_assoc q v (b * 32768) ∙ ap (bit_xor q) again)
    ∙ ap (λ n. fed n s) (shift_xor q w hq low ∙ ap (bit_xor (reduced (q * 2))) (reduced_low (w * 2) (omega arith) ∙ sym ex))

fed_byte : (r y : ℕ) (s : List ℕ) → r < 65536 → y < 256 → fed r (byte_bits y ++ s) ≡ fed (after_byte r y) s
unfolding idle
fed_byte r y s hr hy =
    let v0 = y * 256 in
    let v1 = y % 128 * 512 in
    let v2 = y % 64 * 1024 in
    let v3 = y % 32 * 2048 in
    let v4 = y % 16 * 4096 in
    let v5 = y % 8 * 8192 in
    let v6 = y % 4 * 16384 in
    let v7 = y % 2 * 32768 in
    let q0 = bit_xor r v0 in
    let h0 : q0 < 65536 = xor_lt 16 r v0 hr (omega arith) in
    let q1 = reduced (q0 * 2) in
    let h1 : q1 < 65536 = shift_lt q0 h0 in
    let q2 = reduced (q1 * 2) in
    let h2 : q2 < 65536 = shift_lt q1 h1 in
    let q3 = reduced (q2 * 2) in
    let h3 : q3 < 65536 = shift_lt q2 h2 in
    let q4 = reduced (q3 * 2) in
    let h4 : q4 < 65536 = shift_lt q3 h3 in
    let q5 = reduced (q4 * 2) in
    let h5 : q5 < 65536 = shift_lt q4 h4 in
    let q6 = reduced (q5 * 2) in
    let h6 : q6 < 65536 = shift_lt q5 h5 in
    let q7 = reduced (q6 * 2) in
    let h7 : q7 < 65536 = shift_lt q6 h6 in
    let q8 = reduced (q7 * 2) in
    let start : r ≡ bit_xor q0 v0 = sym (xor_assoc r v0 v0 ∙ ap (bit_xor r) (xor_self v0) ∙ xor_zero_r r) in
    let s7 = (y % 2) ∷ s in
    let s6 = (y / 2 % 2) ∷ s7 in
    let s5 = (y / 4 % 2) ∷ s6 in
    let s4 = (y / 8 % 2) ∷ s5 in
    let s3 = (y / 16 % 2) ∷ s4 in
    let s2 = (y / 32 % 2) ∷ s3 in
    let s1 = (y / 64 % 2) ∷ s2 in
    ap (λ n. fed n ((y / 128 % 2) ∷ s1)) start
    ∙ fed_one q0 (y / 128 % 2) (y % 128 * 256) v0 v1 s1 h0 (omega arith) (omega arith) (omega arith) (omega arith) (omega arith)
    ∙ fed_one q1 (y / 64 % 2) (y % 64 * 512) v1 v2 s2 h1 (omega arith) (omega arith) (omega arith) (omega arith) (omega arith)
    ∙ fed_one q2 (y / 32 % 2) (y % 32 * 1024) v2 v3 s3 h2 (omega arith) (omega arith) (omega arith) (omega arith) (omega arith)
    ∙ fed_one q3 (y / 16 % 2) (y % 16 * 2048) v3 v4 s4 h3 (omega arith) (omega arith) (omega arith) (omega arith) (omega arith)
    ∙ fed_one q4 (y / 8 % 2) (y % 8 * 4096) v4 v5 s5 h4 (omega arith) (omega arith) (omega arith) (omega arith) (omega arith)
    ∙ fed_one q5 (y / 4 % 2) (y % 4 * 8192) v5 v6 s6 h5 (omega arith) (omega arith) (omega arith) (omega arith) (omega arith)
    ∙ fed_one q6 (y / 2 % 2) (y % 2 * 16384) v6 v7 s7 h6 (omega arith) (omega arith) (omega arith) (omega arith) (omega arith)
    ∙ fed_one q7 (y % 2) 0 v7 0 s h7 (omega arith) (omega arith) (omega arith) (omega arith) (omega arith)
    ∙ ap (λ n. fed n s) (xor_zero_r q8)

abbrev pub AllBytes : List ℕ → Type 0
AllBytes [] = ⊤
AllBytes (y ∷ ys) = (y < 256) × AllBytes ys

fed_bytes : (ys : List ℕ) (r : ℕ) → r < 65536 → AllBytes ys → fed r (bits ys) ≡ after_bytes r ys
unfolding after_bytes
fed_bytes [] r hr h = refl
fed_bytes (y ∷ ys) r hr h =
    fed_byte r y (bits ys) hr h.0
    ∙ fed_bytes ys (after_byte r y) (idle_lt 8 (bit_xor r (y * 256)) (xor_lt 16 r (y * 256) hr (omega (arith, h.0)))) h.1

bits_are_bits : (ys : List ℕ) → AllBits (bits ys)
unfolding AllBits
bits_are_bits [] = tt
bits_are_bits (y ∷ ys) =
    bits_then (byte_bits y) (bits ys)
    (omega arith, (omega arith, (omega arith, (omega arith, (omega arith, (omega arith, (omega arith, (omega arith, tt))))))))
    (bits_are_bits ys)

start_left : remainder_from 0 start_bits ≡ 0x4F4E
unfolding remainder_from
start_left = refl

-- bytes shifted through a register leave what the division leaves
pub after_bytes-is-crc : (ys : List ℕ) → AllBytes ys → after_bytes 0x4F4E ys ≡ crc_of ys
after_bytes-is-crc ys h =
    let all = bits_then (bits ys) zeros (bits_are_bits ys) (zeros_are_bits 16) in
    let size : length (bits ys ++ zeros) ≡ length start_bits + length (bits ys) = length-append (bits ys) zeros ∙ omega arith in
    sym (
    under_mask start_bits (bits ys ++ zeros) 0 0 (length (bits ys)) (lit< tt) (lit< tt) (bits_are_bits (0x4F ∷ 0x4E ∷ [])) all size
    ∙ ap (λ n. bit_xor (idle n (length (bits ys))) (remainder_from 0 (bits ys ++ zeros))) start_left
    ∙ behind_zeros (bits ys) 0x4F4E (lit< tt) (bits_are_bits ys)
    ∙ fed_bytes ys 0x4F4E (lit< tt) h
    )

pub all_bytes : (ys : List ℕ) → ((i : ℕ) → get_or ys i 0 < 256) → AllBytes ys
all_bytes [] h = tt
all_bytes (y ∷ ys) h = (h 0, all_bytes ys (λ i. h (suc i)))

pub after_bytes_at : (r i : ℕ) (ys : List ℕ) → i < length ys → after_bytes (after_byte r (get_or ys i 0)) (drop (i + 1) ys) ≡ after_bytes r (drop i ys)
unfolding after_bytes
after_bytes_at r i ys h =
    let next : i + 1 ≡ suc i = add-one i in
    ap (λ j. after_bytes (after_byte r (get_or ys i 0)) (drop j ys)) next ∙ sym (ap (after_bytes r) (drop-cons ys i 0 h))

digit : (n : ℕ) → n < 131072 → n ≡ bit_xor (n / 65536 * polynomial) (reduced n)
digit n h =
    elim (cases_lt n 65536) [
      | inl a ↦
          let none : n / 65536 * polynomial ≡ 0 = omega arith in
          sym (rw (none, reduced_low n a) (xor_zero_l n))
      | inr a ↦
          let one : n / 65536 * polynomial ≡ polynomial = omega arith in
          sym (rw (one, reduced_high n a) (ap (bit_xor polynomial) (xor_comm n polynomial) ∙ sym (xor_assoc polynomial polynomial n) ∙ ap (λ x. bit_xor x n) (xor_self polynomial) ∙ xor_zero_l n))
    ]

divided : (s : List ℕ) (m r : ℕ) → r < 65536 → AllBits s
    → (q : List ℕ) × AllBits q × (number_from (bit_xor m r) s ≡ bit_xor (product_from m q) (remainder_from r s))
unfolding AllBits number_from product_from remainder_from
divided [] m r hr h = ([], tt, refl)
divided (b ∷ s) m r hr h =
    let n = r * 2 + b in
    let small : n < 131072 = omega (arith, h.0) in
    let d = n / 65536 in
    let bit : d < 2 = omega (arith, small) in
    let down : bit_xor m r * 2 + b ≡ bit_xor (m * 2) n =
    ap (λ x. bit_xor m r * 2 + x) (sym (xor_zero_l b)) ∙ sym (xor_block 1 m r 0 b (lit< tt) h.0) ∙ ap (λ x. bit_xor x n) (add-zero (m * 2)) in
    let taken : bit_xor m r * 2 + b ≡ bit_xor (bit_xor (m * 2) (d * polynomial)) (reduced n) =
    down ∙ ap (bit_xor (m * 2)) (digit n small) ∙ sym (xor_assoc (m * 2) (d * polynomial) (reduced n)) in
    let rest = divided s (bit_xor (m * 2) (d * polynomial)) (reduced n) (reduced_lt n small) h.1 in
    (d ∷ rest.0, (bit, rest.1), ap (λ x. number_from x s) taken ∙ rest.2)

remainder_lt : (s : List ℕ) (r : ℕ) → r < 65536 → AllBits s → remainder_from r s < 65536
unfolding AllBits remainder_from
remainder_lt [] r hr h = hr
remainder_lt (b ∷ s) r hr h = remainder_lt s (reduced (r * 2 + b)) (reduced_lt (r * 2 + b) (omega (arith, h.0))) h.1

-- long division leaves the remainder
pub is_remainder : (s : List ℕ) → AllBits s → IsRemainder s (remainder s)
is_remainder s h = let d = divided s 0 0 (lit< tt) h in (remainder_lt s 0 (lit< tt) h, d.0, d.1, d.2)

masked_bits : (mask s : List ℕ) → AllBits mask → AllBits s → AllBits (masked mask s)
unfolding AllBits masked
masked_bits [] s h k = k
masked_bits (m ∷ mask) [] h k = tt
masked_bits (m ∷ mask) (b ∷ s) h k = (xor_lt 1 m b h.0 k.0, masked_bits mask s h.1 k.1)

-- the register after all bytes is their check value
pub crc_is_check_value : (ys : List ℕ) → IsCheckValue ys (crc_of ys)
unfolding IsCheckValue
crc_is_check_value ys = is_remainder (masked start_bits (bits ys ++ zeros)) (masked_bits start_bits (bits ys ++ zeros) (bits_are_bits (0x4F ∷ 0x4E ∷ [])) (bits_then (bits ys) zeros (bits_are_bits ys) (zeros_are_bits 16)))
