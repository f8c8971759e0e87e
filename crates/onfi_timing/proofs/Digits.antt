-- The value of digits, as far as 64 bits hold it.
use Rattle.std.proofs.Common.{◌≡◌, ◌<◌, ℕ, ◌+◌, ◌-◌, ◌*◌, ◌^◌, min, List, take, length, get_or, true, sym, ap, ◌∙◌, arith}
use Rattle.std.specs.Char.{is_ascii_digit, digit_value}
use Rattle.std.specs.List.{list_all}
use Rattle.std.specs.Str.Parse.{digits_value}
use Rattle.std.proofs.lemmas.Int.Digits.{digits_value_more}
use Rattle.std.proofs.lemmas.List.Folds.{list_all_at}
use Rattle.std.proofs.lemmas.Bool.Decides.{nat_tests}
use Rattle.std.specs.Prelude.{IsTrue}
use Rattle.std.proofs.lemmas.Bool.{true_from_ne_false}

-- each byte of digits is one
pub digit_at : (text : List ℕ) (at : ℕ) → at < length text → IsTrue (list_all is_ascii_digit text) → is_ascii_digit (get_or text at 0) ≡ true
digit_at text at h all = true_from_ne_false _ (λ other. let e = list_all_at is_ascii_digit text at 0 h other in absurd (grind (arith, e, all)))

digit_is : (c : ℕ) → is_ascii_digit c ≡ true → digit_value c ≡ c - 48
digit_is c h = grind (arith, nat_tests)

capped : (m v d w x n : ℕ) → v ≡ min n m → w ≡ min (v * 10) m → x ≡ min (w + d) m → x ≡ min (n * 10 + d) m
capped m v d w x n a b c = omega arith

pub value_step : (text : List ℕ) (at v d w x : ℕ) → at < length text → is_ascii_digit (get_or text at 0) ≡ true
    → v ≡ min (digits_value 10 (take at text)) (2 ^ 64 - 1) → d ≡ get_or text at 0 - 48
    → w ≡ min (v * 10) (2 ^ 64 - 1) → x ≡ min (w + d) (2 ^ 64 - 1) → x ≡ min (digits_value 10 (take (at + 1) text)) (2 ^ 64 - 1)
value_step text at v d w x h digit vi di wi xi =
    let more : digits_value 10 (take (at + 1) text) ≡ digits_value 10 (take at text) * 10 + d =
    digits_value_more 10 text at h ∙ ap (λ y. digits_value 10 (take at text) * 10 + y) (digit_is (get_or text at 0) digit ∙ sym di) in
    capped (2 ^ 64 - 1) v d w x (digits_value 10 (take at text)) vi wi xi ∙ ap (λ y. min y (2 ^ 64 - 1)) (sym more)
