-- Kinds of tokens whose spellings can be distinguished.
use Rattle.std.proofs.Common.{◌≡◌, ℕ, List, [], ◌∷◌, ◌++◌, get_or, refl, sym, ap, ◌∙◌, subst}
use Rattle.std.specs.Prelude.{IfSome, Option, Some, None, ◌≢◌, false}
use Rattle.std.proofs.lemmas.Bool.{false≢true}
use Rattle.onfi_cert.specs.Word.{NoToken, behind_word, is_separator, word}
use Rattle.onfi_cert.proofs.Words.{Ends, Plain, word-append, behind_word-append, word-behind_word}

-- no spelling has a space or LF in it, each spells its token, and what spells a token has that spelling
pub record IsLanguage {T : Type 0} (Kept : T → Type 0) (spelling : T → List ℕ) (token_of : List ℕ → Option T) : Type 0 where
  pub plain : (t : T) → Kept t → Plain (spelling t)
  pub again : (t : T) → Kept t → token_of (spelling t) ≡ Some t
  pub sound : (w : List ℕ) → IfSome (token_of w) (λ t. Kept t × (spelling t ≡ w))
  pub no_empty : token_of [] ≡ None

-- what is so of whatever is found is so of what was found
pub found_is : {T : Type 0} (P : T → Type 0) (o : Option T) (t : T) → o ≡ Some t → IfSome o P → P t
found_is P o t e h = subst (λ x. IfSome x P) e h

pub other_front : (a b : ℕ) (x y : List ℕ) → a ≢ b → a ∷ x ≢ b ∷ y
other_front a b x y other e = other (ap (λ l. get_or l 0 0) e)

module _ {T : Type 0} {Kept : T → Type 0} {spelling : T → List ℕ} {token_of : List ℕ → Option T} (l : IsLanguage Kept spelling token_of) where
  pub no_token : (w : List ℕ) → token_of w ≡ None → NoToken Kept spelling w
  no_token w e t h spelled =
      let again = l.again t h in
      let found : token_of w ≡ Some t = ap token_of (sym spelled) ∙ again in
      cc

  pub no_token_of : (w : List ℕ) → NoToken Kept spelling w → token_of w ≡ None
  no_token_of w h = known (token_of w) refl
    where
      known : (o : Option T) → token_of w ≡ o → token_of w ≡ None
      known None e = e
      known (Some t) e = let s = found_is _ (token_of w) t e (l.sound w) in absurd (h t s.0 s.1)

  -- the word in front is this token's
  pub token_in_front : (t : T) (text rest : List ℕ) → Kept t → Ends rest → text ≡ spelling t ++ rest
      → (token_of (word text) ≡ Some t) × (behind_word text ≡ rest)
  token_in_front t text rest h ends e = (
    ap (λ x. token_of (word x)) e ∙ ap token_of (word-append (spelling t) rest (l.plain t h) ends) ∙ l.again t h,
    ap behind_word e ∙ behind_word-append (spelling t) rest (l.plain t h) ends,
  )

  -- so the text begins with its spelling
  pub front_token : (t : T) (text : List ℕ) → token_of (word text) ≡ Some t → Kept t × (text ≡ spelling t ++ behind_word text)
  front_token t text e =
      let s = found_is _ (token_of (word text)) t e (l.sound (word text)) in
      (s.0, sym (word-behind_word text) ∙ ap (λ w. w ++ behind_word text) (sym s.1))

  -- no spelling is empty or begins with LF
  pub first_byte : (t : T) (rest : List ℕ) → Kept t → spelling t ++ rest ≢ 10 ∷ []
  first_byte t rest h = by_bytes (spelling t) refl (l.plain t h)
    where
      by_bytes : (w : List ℕ) → spelling t ≡ w → Plain w → w ++ rest ≢ 10 ∷ []
      by_bytes [] e p = absurd (no_token [] l.no_empty t h e)
      by_bytes (b ∷ bs) e p = other_front b 10 (bs ++ rest) [] (λ q. absurd (false≢true (sym (subst (λ x. is_separator x ≡ false) q p.0))))
