-- Which words are tokens.
use Rattle.std.proofs.Common.{rules, ◌≡◌, ◌<◌, ℕ, zero, suc, ◌+◌, ◌^◌, List, [], ◌∷◌, ◌++◌, Bool, true, false, not, cond, length, get_or, take, drop, refl, sym, ap, ◌∙◌, arith, append_assoc, length-append}
use Rattle.std.specs.Prelude.{IfSome, Option, Some, None, ◌==◌, ◌&&◌, nat_lt, option_map, option_and_then, position, decimal}
use Rattle.std.specs.Char.{is_ascii_digit}
use Rattle.std.specs.List.{list_all, position_or_len, before_first, after_first}
use Rattle.std.specs.Str.Parse.{AllDigits, digits_value}
use Rattle.std.proofs.lemmas.Bool.{lt-ltb, ltb-true, eqb-true, eqb-false, ne_eqb, and_parts}
use Rattle.std.proofs.lemmas.Bool.Decides.{nat_tests}
use Rattle.std.proofs.lemmas.Fmt.{decimal_is_IsNumeral, decimal_digit, first_decimal, decimal-digits_value}
use Rattle.std.proofs.lemmas.Str.Parse.{digit_from_value, numerals_by_value, IsNumeralModel}
use Rattle.std.proofs.lemmas.List.{drop_at}
use Rattle.std.proofs.lemmas.List.Sums.{split_at_first, passes_at_first}
use Rattle.std.proofs.Math.Seq.{take-append_seam}
use Rattle.onfi_timing.specs.Decimal.{below, written_number}
use Rattle.onfi_timing.proofs.Written.{below_again, below_some, number_again, number_read}
use Rattle.onfi_cert.specs.declared.token.Token.{Token as PlainToken}
use Rattle.onfi_cert.specs.declared.token.Token.TheVariants as plain_tk
use Rattle.onfi_cert.specs.Word.{token_of as plain_token_of}
use Rattle.onfi_cert.proofs.Language.{IsLanguage, found_is}
use Rattle.onfi_cert.proofs.Spellings.{at_letter, either, Spells as PlainSpells, plain as is_plain, spelling_again as plain_spelling_again, token_of_sound as plain_token_of_sound}
use Rattle.onfi_cert.proofs.Words.{Plain}
use Rattle.onfi_known_check.specs.declared.token.Token.{Token}
use Rattle.onfi_known_check.specs.declared.token.Token.TheVariants as tk
use Rattle.onfi_known_check.specs.declared.token.TheConstants.{MOST_KNOWN}
use Rattle.onfi_known_check.specs.Text.{InRange, spelling}
use Rattle.onfi_known_check.specs.Word.{of_plain, again_token, window_token, token_of}

-- digits are no separators and no commas
plain_digits : (ds : List ℕ) → AllDigits 10 ds → Plain ds
plain_digits [] d = tt
plain_digits (c ∷ cs) d =
    let r = digit_from_value c d.0 in
    (rw (ne_eqb c 32 (λ e. omega (arith, r.0)), ne_eqb c 10 (λ e. omega (arith, r.0))), plain_digits cs d.1)

plain_decimal : (n : ℕ) → n < 2 ^ 64 → Plain (decimal n)
plain_decimal n h = plain_digits (decimal n) (decimal_is_IsNumeral n h).0.1

plain_append : (v w : List ℕ) → Plain v → Plain w → Plain (v ++ w)
plain_append [] w h k = k
plain_append (b ∷ v) w h k = (h.0, plain_append v w h.1 k)

-- no spelling has a space or LF in it
pub plain : (t : Token) → InRange t → Plain (spelling t)
plain (tk.Branch n) h = is_plain (plain_tk.Branch n)
plain tk.Bus h = is_plain plain_tk.Bus
plain tk.Lead h = is_plain plain_tk.Lead
plain tk.Trail h = is_plain plain_tk.Trail
plain (tk.Die l) h = is_plain (plain_tk.Die l)
plain (tk.Yield l) h = is_plain (plain_tk.Yield l)
plain tk.End h = is_plain plain_tk.End
plain (tk.Window a b) h = (refl, plain_append (decimal a) (44 ∷ decimal b) (plain_decimal a (omega (arith, h.0))) (refl, plain_decimal b (omega (arith, h.1))))
plain (tk.Again n) h = (refl, plain_decimal n (omega arith))

abbrev is_comma : ℕ → Bool
is_comma b = b == 44

no_comma : (ds : List ℕ) (rest : List ℕ) → AllDigits 10 ds → position_or_len is_comma (ds ++ 44 ∷ rest) ≡ length ds
no_comma [] rest d = refl
no_comma (c ∷ cs) rest d =
    let r = digit_from_value c d.0 in
    rw (ne_eqb c 44 (λ e. omega (arith, r.0))) (let more = no_comma cs rest d.1 in omega arith)

comma_at : (ds rest : List ℕ) → AllDigits 10 ds → position is_comma (ds ++ 44 ∷ rest) ≡ Some (length ds)
comma_at ds rest d =
    let at = no_comma ds rest d in
    let long : length (ds ++ 44 ∷ rest) ≡ length ds + suc (length rest) = length-append ds (44 ∷ rest) in
    ap (λ n. cond (nat_lt n (length (ds ++ 44 ∷ rest))) (Some n) None) at ∙ ap (λ b. cond b (Some (length ds)) None) (lt-ltb (length ds) (length (ds ++ 44 ∷ rest)) (omega arith))

behind_comma : (ds rest : List ℕ) → drop (length ds + 1) (ds ++ 44 ∷ rest) ≡ rest
behind_comma ds rest =
    ap (drop (length ds + 1)) (sym (append_assoc ds (44 ∷ []) rest)) ∙ drop_at (ds ++ 44 ∷ []) rest (length ds + 1) (length-append ds (44 ∷ []))

window_again : (a b : ℕ) → a < 2 ^ 63 → b < 2 ^ 63 → window_token (decimal a ++ 44 ∷ decimal b) ≡ Some (tk.Window a b)
window_again a b h k =
    let text = decimal a ++ 44 ∷ decimal b in
    let digits = (decimal_is_IsNumeral a (omega arith)).0.1 in
    ap (λ o. option_and_then (λ at. option_and_then (λ start. option_map (tk.Window start) (written_number (drop (at + 1) text))) (written_number (take at text))) o) (comma_at (decimal a) (decimal b) digits)
    ∙ ap (λ o. option_and_then (λ start. option_map (tk.Window start) (written_number (drop (length (decimal a) + 1) text))) o) (ap written_number (take-append_seam (decimal a) (44 ∷ decimal b)) ∙ number_again a h)
    ∙ ap (λ o. option_map (tk.Window a) o) (ap written_number (behind_comma (decimal a) (decimal b)) ∙ number_again b k)

-- a spelling spells its token
pub spelling_again : (t : Token) → InRange t → token_of (spelling t) ≡ Some t
spelling_again (tk.Branch n) h = ap (option_map of_plain) (plain_spelling_again (plain_tk.Branch n) h)
spelling_again tk.Bus h = refl
spelling_again tk.Lead h = refl
spelling_again tk.Trail h = refl
spelling_again (tk.Die l) h = ap (option_map of_plain) (plain_spelling_again (plain_tk.Die l) h)
spelling_again (tk.Yield l) h = ap (option_map of_plain) (plain_spelling_again (plain_tk.Yield l) h)
spelling_again tk.End h = refl
spelling_again (tk.Window a b) h = window_again a b h.0 h.1
spelling_again (tk.Again n) h = ap (option_and_then (λ m. option_map tk.Again (below MOST_KNOWN m))) (number_again n (omega arith)) ∙ ap (option_map tk.Again) (below_again MOST_KNOWN n h)

abbrev pub Spells : List ℕ → Token → Type 0
Spells w t = InRange t × (spelling t ≡ w)

mapped : {A B : Type 0} (P : B → Type 0) (f : A → B) (o : Option A) → ((a : A) → o ≡ Some a → P (f a)) → IfSome (option_map f o) P
mapped P f None h = tt
mapped P f (Some a) h = h a refl

chained : {A B : Type 0} (P : B → Type 0) (f : A → Option B) (o : Option A) → ((a : A) → o ≡ Some a → IfSome (f a) P) → IfSome (option_and_then f o) P
chained P f None h = tt
chained P f (Some a) h = h a refl

again_sound : (text : List ℕ) → IfSome (again_token text) (Spells (82 ∷ text))
again_sound text =
    chained _ _ (written_number text) (λ n read.
    mapped (Spells (82 ∷ text)) tk.Again (below MOST_KNOWN n) (λ m s.
    let b = below_some MOST_KNOWN n m s in
    (b.1, ap (λ z. 82 ∷ z) (ap decimal b.0 ∙ (number_read text n read).0))))

-- a text that is cut at its first comma
cut_comma : (text : List ℕ) (at : ℕ) → position is_comma text ≡ Some at → text ≡ take at text ++ 44 ∷ drop (at + 1) text
cut_comma text at e = by_test (nat_lt (position_or_len is_comma text) (length text)) refl e
  where
    cut : (k : ℕ) → position_or_len is_comma text ≡ k → position_or_len is_comma text < length text → text ≡ take k text ++ 44 ∷ drop (k + 1) text
    cut k same h =
        let is : get_or text (position_or_len is_comma text) 0 ≡ 44 = eqb-true _ 44 (passes_at_first is_comma text 0 h) in
        split_at_first is_comma text 0 h ∙ ap (λ b. before_first is_comma text ++ b ∷ after_first is_comma text) is ∙ ap (λ n. take n text ++ 44 ∷ drop (n + 1) text) same

    by_test : (b : Bool) → nat_lt (position_or_len is_comma text) (length text) ≡ b → cond b (Some (position_or_len is_comma text)) None ≡ Some at → text ≡ take at text ++ 44 ∷ drop (at + 1) text
    by_test true t s = let same : position_or_len is_comma text ≡ at = cc in cut at same (ltb-true _ _ t)
    by_test false t s = cc

window_sound : (text : List ℕ) → IfSome (window_token text) (Spells (87 ∷ text))
window_sound text =
    chained _ _ (position is_comma text) (λ at here.
    chained _ _ (written_number (take at text)) (λ a first.
    mapped (Spells (87 ∷ text)) (tk.Window a) (written_number (drop (at + 1) text)) (λ b second.
    let x = number_read (take at text) a first in
    let y = number_read (drop (at + 1) text) b second in
    ((x.1, y.1), ap (λ z. 87 ∷ z) (ap (λ z. z ++ 44 ∷ decimal b) x.0 ∙ ap (λ z. take at text ++ 44 ∷ z) y.0 ∙ sym (cut_comma text at here))))))

-- a plain token is spelled as in plain certificates
plain_spells : (t : PlainToken) (w : List ℕ) → PlainSpells w t → Spells w (of_plain t)
plain_spells (plain_tk.Branch n) w h = h
plain_spells plain_tk.Bus w h = h
plain_spells plain_tk.Lead w h = h
plain_spells plain_tk.Trail w h = h
plain_spells (plain_tk.Die l) w h = h
plain_spells (plain_tk.Yield l) w h = h
plain_spells plain_tk.End w h = h

-- what a word spells has that spelling
pub token_of_sound : (w : List ℕ) → IfSome (token_of w) (Spells w)
token_of_sound [] = tt
token_of_sound (c ∷ more) =
    either _ (c == 87) _ _ (at_letter Spells c 87 (window_token more) more (window_sound more))
    (λ _. either _ (c == 82) _ _ (at_letter Spells c 82 (again_token more) more (again_sound more))
    (λ _. mapped (Spells (c ∷ more)) of_plain (plain_token_of (c ∷ more)) (λ t e. plain_spells t (c ∷ more) (found_is (PlainSpells (c ∷ more)) (plain_token_of (c ∷ more)) t e (plain_token_of_sound (c ∷ more))))))

pub language : IsLanguage InRange spelling token_of
language = record { plain = plain; again = spelling_again; sound = token_of_sound; no_empty = refl }
