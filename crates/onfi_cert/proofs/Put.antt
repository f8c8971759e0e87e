-- Writing a line token by token.
use Rattle.std.proofs.Common.{◌≡◌, ◌⊎◌, ◌<◌, inl, inr, ℕ, ◌+◌, List, [], ◌∷◌, ◌++◌, length, take, get_or, refl, sym, ap, ◌∙◌, subst, arith, append_assoc, append-nil}
use Rattle.std.specs.Prelude.{All}
use Rattle.std.proofs.lemmas.List.{take_more, length-take-le}
use Rattle.std.proofs.lemmas.List.Elements.{All-nil, All-cons, All-append}
use Rattle.onfi_cert.specs.Text.{joined_of}

-- these tokens, each with what is kept of it, were put after what stood there
pub record Put {T : Type 0} (spelling : T → List ℕ) (Kept : T → Type 0) (before out : List ℕ) (tokens : List T) : Type 0 where
  pub kept : All Kept tokens
  pub spelled : out ≡ before ++ joined_of spelling tokens

joined_more : {T : Type 0} (spelling : T → List ℕ) (t : T) (ts : List T) (u : T)
    → joined_of spelling ((t ∷ ts) ++ u ∷ []) ≡ joined_of spelling (t ∷ ts) ++ 32 ∷ spelling u
joined_more spelling t [] u = refl
joined_more spelling t (v ∷ ts) u =
    ap (λ x. spelling t ++ 32 ∷ x) (joined_more spelling v ts u) ∙ sym (append_assoc (spelling t) (32 ∷ joined_of spelling (v ∷ ts)) (32 ∷ spelling u))

-- one more token, after a space if it is not the first
put_one : {T : Type 0} (spelling : T → List ℕ) (Kept : T → Type 0) (before out spaced : List ℕ) (ts : List T) (u : T) → Put spelling Kept before out ts → Kept u
    → ((0 < length ts) × (spaced ≡ out ++ 32 ∷ [])) ⊎ ((length ts ≡ 0) × (spaced ≡ out)) → Put spelling Kept before (spaced ++ spelling u) (ts ++ u ∷ [])
put_one spelling Kept before out spaced [] u p h (inl s) = absurd (omega (arith, s.0))
put_one spelling Kept before out spaced [] u p h (inr s) = record {
  kept = All-cons Kept u [] h (All-nil Kept);
  spelled = ap (λ x. x ++ spelling u) (s.1 ∙ p.spelled ∙ append-nil before);
}
put_one spelling Kept before out spaced (t ∷ ts) u p h (inr s) = absurd (omega (arith, s.0))
put_one spelling Kept before out spaced (t ∷ ts) u p h (inl s) = record {
  kept = All-append Kept (t ∷ ts) (u ∷ []) p.kept (All-cons Kept u [] h (All-nil Kept));
  spelled =
      ap (λ x. x ++ spelling u) (s.1 ∙ ap (λ x. x ++ 32 ∷ []) p.spelled)
      ∙ append_assoc (before ++ joined_of spelling (t ∷ ts)) (32 ∷ []) (spelling u)
      ∙ append_assoc before (joined_of spelling (t ∷ ts)) (32 ∷ spelling u)
      ∙ ap (λ x. before ++ x) (sym (joined_more spelling t ts u));
}

pub put_next : {T : Type 0} (spelling : T → List ℕ) (Kept : T → Type 0) (before out spaced after : List ℕ) (tokens : List T) (i : ℕ) (u : T)
    → i < length tokens → u ≡ get_or tokens i u → Put spelling Kept before out (take i tokens) → Kept u
    → ((0 < i) × (spaced ≡ out ++ 32 ∷ [])) ⊎ ((i ≡ 0) × (spaced ≡ out)) → after ≡ spaced ++ spelling u → Put spelling Kept before after (take (i + 1) tokens)
put_next spelling Kept before out spaced after tokens i u below at p h gap e =
    let count : length (take i tokens) ≡ i = length-take-le i tokens (omega arith) in
    let more : take (i + 1) tokens ≡ take i tokens ++ u ∷ [] = take_more tokens i u below ∙ ap (λ v. take i tokens ++ v ∷ []) (sym at) in
    let Gap : ℕ → Type 0 = λ n. ((0 < n) × (spaced ≡ out ++ 32 ∷ [])) ⊎ ((n ≡ 0) × (spaced ≡ out)) in
    let AtOut : List ℕ → Type 0 = λ x. Put spelling Kept before x (take i tokens ++ u ∷ []) in
    subst (λ ts. Put spelling Kept before after ts) (sym more) (subst AtOut (sym e) (put_one spelling Kept before out spaced (take i tokens) u p h (subst Gap (sym count) gap)))
