-- Which words are tokens.
use Rattle.std.proofs.Common.{◌≡◌, ◌<◌, ◌≤◌, ℕ, ◌+◌, ◌-◌, ◌*◌, ◌/◌, ◌%◌, List, [], ◌∷◌, Bool, true, false, cond, refl, sym, ap, subst, arith, inl, inr}
use Rattle.std.specs.Prelude.{IfSome, Option, Some, None, ◌==◌, ◌&&◌, nat_le}
use Rattle.std.proofs.lemmas.Bool.{cases_lt, lt-ltb, le-ltb, le-leb, leb-true, eqb-true, ne_eqb, and_parts}
use Rattle.onfi_cert.specs.declared.token.Token.{Token}
use Rattle.onfi_cert.specs.declared.token.Token.TheVariants as tk
use Rattle.onfi_cert.specs.Text.{InRange, digit, number, spelling}
use Rattle.onfi_cert.specs.Word.{is_separator, is_within, letter_token, lun_at, lun_token, narrow, numbered, token_of, wide}
use Rattle.onfi_cert.proofs.Language.{IsLanguage}
use Rattle.onfi_cert.proofs.Words.{Plain}

within : (low b high : ℕ) → low ≤ b → b ≤ high → is_within low b high ≡ true
within low b high h k = rw (le-leb low b h, le-leb b high k)

plain_digit : (n : ℕ) → is_separator (digit n) ≡ false
plain_digit n = rw (ne_eqb (48 + n) 32 (λ e. omega arith), ne_eqb (48 + n) 10 (λ e. omega arith))

plain_number : (n : ℕ) → Plain (number n)
plain_number n =
    elim (cases_lt n 10) [
      | inl h ↦ rw (lt-ltb n 10 h) (plain_digit n, tt)
      | inr h ↦ rw (le-ltb n 10 h) (plain_digit (n / 10), (plain_digit (n % 10), tt))
    ]

-- no spelling has a space or LF in it
pub plain : (t : Token) → Plain (spelling t)
plain (tk.Branch n) = (refl, plain_number n)
plain tk.Bus = (refl, tt)
plain tk.Lead = (refl, tt)
plain tk.Trail = (refl, tt)
plain (tk.Die l) = (refl, (plain_digit l, tt))
plain (tk.Yield l) = (refl, (plain_digit l, tt))
plain tk.End = (refl, tt)

lun_again : (l : ℕ) → l < 8 → lun_at (digit l) ≡ Some l
lun_again l h =
    let same : 48 + l - 48 ≡ l = omega arith in
    rw (within 48 (48 + l) 55 (omega arith) (omega arith), same)

narrow_again : (n : ℕ) → 1 ≤ n → n < 10 → narrow (digit n) ≡ Some (tk.Branch n)
narrow_again n lo hi =
    let same : 48 + n - 48 ≡ n = omega arith in
    rw (within 49 (48 + n) 57 (omega arith) (omega arith), same)

wide_again : (n : ℕ) → 10 ≤ n → n ≤ 99 → wide (digit (n / 10)) (digit (n % 10)) ≡ Some (tk.Branch n)
wide_again n lo hi =
    let same : (48 + n / 10 - 48) * 10 + (48 + n % 10 - 48) ≡ n = omega arith in
    rw (within 49 (48 + n / 10) 57 (omega arith) (omega arith), within 48 (48 + n % 10) 57 (omega arith) (omega arith), same)

branch_again : (n : ℕ) → 1 ≤ n → n ≤ 99 → token_of (spelling (tk.Branch n)) ≡ Some (tk.Branch n)
branch_again n lo hi =
    elim (cases_lt n 10) [
      | inl h ↦ rw (lt-ltb n 10 h) (narrow_again n lo h)
      | inr h ↦ rw (le-ltb n 10 h) (wide_again n h hi)
    ]

-- a spelling spells its token
pub spelling_again : (t : Token) → InRange t → token_of (spelling t) ≡ Some t
spelling_again (tk.Branch n) h = branch_again n h.0 h.1
spelling_again tk.Bus h = refl
spelling_again tk.Lead h = refl
spelling_again tk.Trail h = refl
spelling_again (tk.Die l) h = ap (lun_token tk.Die) (lun_again l h)
spelling_again (tk.Yield l) h = ap (lun_token tk.Yield) (lun_again l h)
spelling_again tk.End h = refl

abbrev pub Spells : List ℕ → Token → Type 0
Spells w t = InRange t × (spelling t ≡ w)

-- what a test chooses is so where each of the two is
pub either : {T : Type 0} (P : T → Type 0) (b : Bool) (x y : Option T) → (b ≡ true → IfSome x P) → (b ≡ false → IfSome y P) → IfSome (cond b x y) P
either P true x y f g = f refl
either P false x y f g = g refl

-- a letter that was compared
pub at_letter : {T : Type 0} (P : List ℕ → T → Type 0) (c l : ℕ) (o : Option T) (more : List ℕ) → IfSome o (P (l ∷ more)) → (c == l) ≡ true → IfSome o (P (c ∷ more))
at_letter P c l o more h e =
    let Q : ℕ → Type 0 = λ x. IfSome o (P (x ∷ more)) in
    subst Q (sym (eqb-true c l e)) h

letter : (c l : ℕ) → (c == l) ≡ true → l ∷ [] ≡ c ∷ []
letter c l e = ap (λ x. x ∷ []) (sym (eqb-true c l e))

letter_sound : (c : ℕ) → IfSome (letter_token c) (Spells (c ∷ []))
letter_sound c =
    either _ (c == 85) _ _ (λ e. (tt, letter c 85 e))
    (λ _. either _ (c == 76) _ _ (λ e. (tt, letter c 76 e))
    (λ _. either _ (c == 84) _ _ (λ e. (tt, letter c 84 e))
    (λ _. either _ (c == 88) _ _ (λ e. (tt, letter c 88 e)) (λ _. tt))))

from_within : (low b high : ℕ) → is_within low b high ≡ true → (low ≤ b) × (b ≤ high)
from_within low b high h =
    let both = and_parts (nat_le low b) (nat_le b high) h in
    (leb-true low b both.0, leb-true b high both.1)

narrow_sound : (d : ℕ) → IfSome (narrow d) (Spells (66 ∷ d ∷ []))
narrow_sound d = either _ (is_within 49 d 57) _ _ (λ e. spelled (from_within 49 d 57 e)) (λ _. tt)
  where
    spelled : (49 ≤ d) × (d ≤ 57) → Spells (66 ∷ d ∷ []) (tk.Branch (d - 48))
    spelled h =
        let same : 48 + (d - 48) ≡ d = omega arith in
        ((omega arith, omega arith), rw (lt-ltb (d - 48) 10 (omega arith), same))

abbrev TokenOfLun : ℕ → (ℕ → Token) → Type 0
TokenOfLun letter token = (l : ℕ) → l < 8 → Spells (letter ∷ digit l ∷ []) (token l)

lun_by : (letter d : ℕ) (token : ℕ → Token) (b : Bool) → TokenOfLun letter token → is_within 48 d 55 ≡ b → IfSome (lun_token token (cond b (Some (d - 48)) None)) (Spells (letter ∷ d ∷ []))
lun_by letter d token false spelled e = tt
lun_by letter d token true spelled e =
    let in_range = from_within 48 d 55 e in
    let same : 48 + (d - 48) ≡ d = omega arith in
    let P : ℕ → Type 0 = λ x. Spells (letter ∷ x ∷ []) (token (d - 48)) in
    subst P same (spelled (d - 48) (omega arith))

lun_sound : (letter d : ℕ) (token : ℕ → Token) → TokenOfLun letter token → IfSome (lun_token token (lun_at d)) (Spells (letter ∷ d ∷ []))
lun_sound letter d token spelled = lun_by letter d token (is_within 48 d 55) spelled refl

wide_spelled : (d e : ℕ) → (49 ≤ d) × (d ≤ 57) → (48 ≤ e) × (e ≤ 57) → Spells (66 ∷ d ∷ e ∷ []) (tk.Branch ((d - 48) * 10 + (e - 48)))
wide_spelled d e h k =
    let n : ℕ = (d - 48) * 10 + (e - 48) in
    let tens : 48 + ((d - 48) * 10 + (e - 48)) / 10 ≡ d = omega arith in
    let ones : 48 + ((d - 48) * 10 + (e - 48)) % 10 ≡ e = omega arith in
    ((omega arith, omega arith), rw (le-ltb ((d - 48) * 10 + (e - 48)) 10 (omega arith), tens, ones))

wide_sound : (d e : ℕ) → IfSome (wide d e) (Spells (66 ∷ d ∷ e ∷ []))
wide_sound d e =
    either _ (is_within 49 d 57 && is_within 48 e 57) _ _ (λ h. spelled (and_parts (is_within 49 d 57) (is_within 48 e 57) h)) (λ _. tt)
  where
    spelled : (is_within 49 d 57 ≡ true) × (is_within 48 e 57 ≡ true) → Spells (66 ∷ d ∷ e ∷ []) (tk.Branch ((d - 48) * 10 + (e - 48)))
    spelled h = wide_spelled d e (from_within 49 d 57 h.0) (from_within 48 e 57 h.1)

numbered_sound : (c d : ℕ) → IfSome (numbered c d) (Spells (c ∷ d ∷ []))
numbered_sound c d =
    either _ (c == 66) _ _ (at_letter Spells c 66 (narrow d) (d ∷ []) (narrow_sound d))
    (λ _. either _ (c == 68) _ _ (at_letter Spells c 68 (lun_token tk.Die (lun_at d)) (d ∷ []) (lun_sound 68 d tk.Die (λ l h. (h, refl))))
    (λ _. either _ (c == 89) _ _ (at_letter Spells c 89 (lun_token tk.Yield (lun_at d)) (d ∷ []) (lun_sound 89 d tk.Yield (λ l h. (h, refl)))) (λ _. tt)))

-- what a word spells has that spelling
pub token_of_sound : (w : List ℕ) → IfSome (token_of w) (Spells w)
token_of_sound [] = tt
token_of_sound (c ∷ []) = letter_sound c
token_of_sound (c ∷ d ∷ []) = numbered_sound c d
token_of_sound (c ∷ d ∷ e ∷ []) = either _ (c == 66) _ _ (at_letter Spells c 66 (wide d e) (d ∷ e ∷ []) (wide_sound d e)) (λ _. tt)
token_of_sound (c ∷ d ∷ e ∷ f ∷ more) = tt

pub language : IsLanguage InRange spelling token_of
language = record { plain = λ t h. plain t; again = spelling_again; sound = token_of_sound; no_empty = refl }
