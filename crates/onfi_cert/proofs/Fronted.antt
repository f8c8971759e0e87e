-- Spellings with a space in front of each.
use Rattle.std.proofs.Common.{◌≡◌, inr, ℕ, List, [], ◌∷◌, ◌++◌, refl, ap, append-nil}
use Rattle.onfi_cert.specs.Text.{fronted_of, joined_of}
use Rattle.onfi_cert.proofs.Words.{Ends}

module _ {T : Type 0} (spelling : T → List ℕ) where
  pub fronted_ends : (ts : List T) (tail : List ℕ) → Ends tail → Ends (fronted_of spelling ts ++ tail)
  fronted_ends [] tail h = h
  fronted_ends (t ∷ ts) tail h = inr refl

  fronted_joined : (t : T) (ts : List T) → fronted_of spelling (t ∷ ts) ≡ 32 ∷ joined_of spelling (t ∷ ts)
  fronted_joined t [] = ap (λ x. 32 ∷ x) (append-nil (spelling t))
  fronted_joined t (u ∷ ts) = ap (λ x. 32 ∷ (spelling t ++ x)) (fronted_joined u ts)

  -- joined tokens with this after them
  pub fronted_line : (t : T) (ts : List T) (tail : List ℕ) → fronted_of spelling (t ∷ ts) ++ tail ≡ 32 ∷ (joined_of spelling (t ∷ ts) ++ tail)
  fronted_line t ts tail = ap (λ x. x ++ tail) (fronted_joined t ts)
