-- Numbers as they are written are read, and nothing else is.
use Rattle.std.proofs.Common.{rules, ◌≡◌, ◌<◌, ℕ, zero, suc, ◌^◌, List, [], ◌∷◌, Bool, true, false, not, cond, length, get_or, refl, sym, ap, ◌∙◌, arith}
use Rattle.std.specs.Prelude.{Some, None, ◌==◌, ◌&&◌, nat_lt, option_and_then, decimal}
use Rattle.std.specs.Char.{is_ascii_digit}
use Rattle.std.specs.List.{list_all}
use Rattle.std.specs.Str.Parse.{AllDigits, digits_value}
use Rattle.std.proofs.lemmas.Bool.{lt-ltb, ltb-true, eqb-false, ne_eqb, and_parts}
use Rattle.std.proofs.lemmas.Bool.Decides.{nat_tests}
use Rattle.std.proofs.lemmas.Fmt.{decimal_is_IsNumeral, decimal_digit, first_decimal, decimal-digits_value}
use Rattle.std.proofs.lemmas.Str.Parse.{digit_from_value, numerals_by_value, IsNumeralModel}
use Rattle.onfi_timing.specs.Decimal.{below, has_leading_zero, is_number, number_of, written_number}

all_digits : (ds : List ℕ) → AllDigits 10 ds → list_all is_ascii_digit ds ≡ true
all_digits [] d = refl
all_digits (c ∷ cs) d =
    let one : is_ascii_digit c ≡ true = let r = digit_from_value c d.0 in grind (arith, nat_tests) in
    ap (λ b. b && list_all is_ascii_digit cs) one ∙ all_digits cs d.1

abbrev Digits : List ℕ → Type 0
Digits ds = list_all is_ascii_digit ds ≡ true

are_digits : IsNumeralModel Digits (digits_value 10)
are_digits = numerals_by_value _ (search rules)

no_zero : (ds : List ℕ) → 48 < get_or ds 0 0 → has_leading_zero ds ≡ false
no_zero [] h = refl
no_zero (c ∷ []) h = refl
no_zero (c ∷ d ∷ more) h = ne_eqb c 48 (λ e. omega arith)

no_leading_zero : (n : ℕ) → n < 2 ^ 64 → has_leading_zero (decimal n) ≡ false
no_leading_zero zero h = ap has_leading_zero (decimal_digit 0 (omega arith))
no_leading_zero (suc n) h = no_zero (decimal (suc n)) (first_decimal (suc n) (omega arith) h)

pub below_again : (limit n : ℕ) → n < limit → below limit n ≡ Some n
below_again limit n h = rw (lt-ltb n limit h)

pub below_some : (limit n m : ℕ) → below limit n ≡ Some m → (m ≡ n) × (m < limit)
below_some limit n m e = by_test (nat_lt n limit) refl e
  where
    by_test : (b : Bool) → nat_lt n limit ≡ b → cond b (Some n) None ≡ Some m → (m ≡ n) × (m < limit)
    by_test true t s = let same : n ≡ m = cc in (sym same, let l = ltb-true n limit t in omega arith)
    by_test false t s = cc

-- a number as it is written is read
pub number_again : (n : ℕ) → n < 2 ^ 63 → written_number (decimal n) ≡ Some n
number_again n h =
    let numeral = decimal_is_IsNumeral n (omega arith) in
    let digits : list_all is_ascii_digit (decimal n) ≡ true = all_digits (decimal n) numeral.0.1 in
    let some : (length (decimal n) == 0) ≡ false = ne_eqb (length (decimal n)) 0 (λ e. omega (arith, numeral.0.0)) in
    ap (λ b. cond b None (option_and_then (below (2 ^ 63)) (number_of (decimal n)))) (no_leading_zero n (omega arith))
    ∙ ap (λ b. option_and_then (below (2 ^ 63)) (cond (not b && list_all is_ascii_digit (decimal n)) (Some (digits_value 10 (decimal n))) None)) some
    ∙ ap (λ b. option_and_then (below (2 ^ 63)) (cond b (Some (digits_value 10 (decimal n))) None)) digits
    ∙ ap (below (2 ^ 63)) numeral.1
    ∙ below_again (2 ^ 63) n h

one_digit : (ds : List ℕ) → has_leading_zero ds ≡ false → 0 < length ds → get_or ds 0 0 ≡ 48 → length ds ≡ 1
one_digit [] z s f = absurd (omega arith)
one_digit (c ∷ []) z s f = refl
one_digit (c ∷ d ∷ more) z s f = absurd (eqb-false c 48 z f)

-- what is read as a number is as it is written
pub number_read : (ds : List ℕ) (n : ℕ) → written_number ds ≡ Some n → (decimal n ≡ ds) × (n < 2 ^ 63)
number_read ds n e = by_zero (has_leading_zero ds) refl e
  where
    spelled : (v : ℕ) → has_leading_zero ds ≡ false → is_number ds ≡ true → digits_value 10 ds ≡ v → v < 2 ^ 63 → decimal v ≡ ds
    spelled v z is same small =
        let parts = and_parts (not (length ds == 0)) (list_all is_ascii_digit ds) is in
        let some : 0 < length ds = some_of (length ds) parts.0 in
        ap decimal (sym same) ∙ decimal-digits_value are_digits ds parts.1 some (one_digit ds z some) (omega arith)
      where
        some_of : (k : ℕ) → not (k == 0) ≡ true → 0 < k
        some_of zero h = cc
        some_of (suc k) h = omega arith

    by_number : (b : Bool) → has_leading_zero ds ≡ false → is_number ds ≡ b → option_and_then (below (2 ^ 63)) (cond b (Some (digits_value 10 ds)) None) ≡ Some n → (decimal n ≡ ds) × (n < 2 ^ 63)
    by_number true z t s = let b = below_some (2 ^ 63) (digits_value 10 ds) n s in (spelled n z t (sym b.0) b.1, b.1)
    by_number false z t s = cc

    by_zero : (b : Bool) → has_leading_zero ds ≡ b → cond b None (option_and_then (below (2 ^ 63)) (number_of ds)) ≡ Some n → (decimal n ≡ ds) × (n < 2 ^ 63)
    by_zero true z s = cc
    by_zero false z s = by_number (is_number ds) z refl s
