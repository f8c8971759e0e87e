-- Cutting a text at its words.
use Rattle.std.proofs.Common.{◌≡◌, ◌⊎◌, inl, inr, ℕ, ◌+◌, List, [], ◌∷◌, ◌++◌, Bool, true, false, not, cond, length, take, drop, refl, ap, ◌∙◌, one-add}
use Rattle.std.specs.Prelude.{⊤}
use Rattle.std.specs.List.{position_or_len}
use Rattle.std.proofs.lemmas.Bool.{cases_eq, eqb-true, ne_eqb}
use Rattle.std.proofs.lemmas.List.{take-append-drop}
use Rattle.std.proofs.Math.Seq.{take-append_seam, drop-append_seam}
use Rattle.onfi_cert.specs.Word.{behind_word, is_separator, word}

-- what a word is cut at: the end of the text, a space or LF
abbrev pub Ends : List ℕ → Type 0
Ends [] = ⊤
Ends (b ∷ rest) = (b ≡ 10) ⊎ (b ≡ 32)

-- no space and no LF
abbrev pub Plain : List ℕ → Type 0
Plain [] = ⊤
Plain (b ∷ bs) = (is_separator b ≡ false) × Plain bs

separates : (b : ℕ) → (b ≡ 10) ⊎ (b ≡ 32) → is_separator b ≡ true
separates b (inl e) = rw e
separates b (inr e) = rw e

position-append : (w rest : List ℕ) → Plain w → Ends rest → position_or_len is_separator (w ++ rest) ≡ length w
position-append [] [] h e = refl
position-append [] (b ∷ rest) h e = rw (separates b e)
position-append (b ∷ w) rest h e = rw h.0 (ap (λ n. 1 + n) (position-append w rest h.1 e) ∙ one-add (length w))

pub word-append : (w rest : List ℕ) → Plain w → Ends rest → word (w ++ rest) ≡ w
word-append w rest h e = ap (λ n. take n (w ++ rest)) (position-append w rest h e) ∙ take-append_seam w rest

pub behind_word-append : (w rest : List ℕ) → Plain w → Ends rest → behind_word (w ++ rest) ≡ rest
behind_word-append w rest h e = ap (λ n. drop n (w ++ rest)) (position-append w rest h e) ∙ drop-append_seam w rest

pub word-behind_word : (text : List ℕ) → word text ++ behind_word text ≡ text
word-behind_word text = take-append-drop (position_or_len is_separator text) text

is_end : (b : ℕ) → is_separator b ≡ true → (b ≡ 10) ⊎ (b ≡ 32)
is_end b h =
    elim (cases_eq b 32) [
      | inl e ↦ inr e
      | inr n ↦ let at = rw (ne_eqb b 32 n) at h in inl (eqb-true b 10 at)
    ]

cut_at : (b : ℕ) (bs : List ℕ) (n : ℕ) (t : Bool) → is_separator b ≡ t → Ends (drop n bs) → Ends (drop (cond (not t) (1 + n) 0) (b ∷ bs))
cut_at b bs n true h below = is_end b h
cut_at b bs n false h below = rw (one-add n) below

pub behind_word_ends : (text : List ℕ) → Ends (behind_word text)
behind_word_ends [] = tt
behind_word_ends (b ∷ bs) = cut_at b bs (position_or_len is_separator bs) (is_separator b) refl (behind_word_ends bs)
