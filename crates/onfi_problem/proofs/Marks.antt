-- Marks of waiting wants.
use Rattle.std.proofs.Common.{◌≡◌, ℕ, zero, suc, ◌+◌, ◌≤◌, ◌<◌, inl, inr, Bool, true, false, List, [], ◌∷◌, length, take, get_or, replicate, refl, ap, subst, arith}
use Rattle.std.specs.Prelude.{slice_set, if◌then◌else◌}
use Rattle.std.proofs.lemmas.Bool.{cases_Bool}
use Rattle.std.proofs.lemmas.List.{take_all}
use Rattle.onfi_request.specs.declared.want.Want.{Want}
use Rattle.onfi_group.specs.Group.{is_member}
use Rattle.onfi_problem.specs.Moves.{without}
use Rattle.onfi_problem.specs.Position.{waiting_of}

-- the marks once the members of a group among these wants have lost theirs
abbrev pub left_marks : List Want → List Bool → List Want → List Bool
left_marks group [] wants = []
left_marks group (b ∷ bs) [] = b ∷ bs
left_marks group (b ∷ bs) (w ∷ ws) = (if is_member group w then false else b) ∷ left_marks group bs ws

pub left_none : (g : List Want) (bs : List Bool) → left_marks g bs [] ≡ bs
left_none g [] = refl
left_none g (b ∷ bs) = refl

more_suc : (g : List Want) (bs : List Bool) (ws : List Want) (i : ℕ) (d : Want) → i < length ws → is_member g (get_or ws i d) ≡ true → left_marks g bs (take (suc i) ws) ≡ slice_set (left_marks g bs (take i ws)) i false
more_suc g [] ws i d h m = refl
more_suc g (b ∷ bs) [] i d h m = absurd (omega arith)
more_suc g (b ∷ bs) (w ∷ ws) zero d h m = rw (m, left_none g bs) refl
more_suc g (b ∷ bs) (w ∷ ws) (suc i) d h m = let e = more_suc g bs ws i d (omega arith) m in ap (λ z. (if is_member g w then false else b) ∷ z) e

same_suc : (g : List Want) (bs : List Bool) (ws : List Want) (i : ℕ) (d : Want) → i < length ws → is_member g (get_or ws i d) ≡ false → left_marks g bs (take (suc i) ws) ≡ left_marks g bs (take i ws)
same_suc g [] ws i d h m = refl
same_suc g (b ∷ bs) [] i d h m = absurd (omega arith)
same_suc g (b ∷ bs) (w ∷ ws) zero d h m = rw (m, left_none g bs) refl
same_suc g (b ∷ bs) (w ∷ ws) (suc i) d h m = ap (λ z. (if is_member g w then false else b) ∷ z) (same_suc g bs ws i d (omega arith) m)

-- a member loses its mark
pub left_more : (g : List Want) (bs : List Bool) (ws : List Want) (i : ℕ) (d : Want) → i < length ws → is_member g (get_or ws i d) ≡ true → left_marks g bs (take (i + 1) ws) ≡ slice_set (left_marks g bs (take i ws)) i false
left_more g bs ws i d h m = let e : suc i ≡ i + 1 = omega arith in subst (λ n. left_marks g bs (take n ws) ≡ slice_set (left_marks g bs (take i ws)) i false) e (more_suc g bs ws i d h m)

-- another keeps it
pub left_same : (g : List Want) (bs : List Bool) (ws : List Want) (i : ℕ) (d : Want) → i < length ws → is_member g (get_or ws i d) ≡ false → left_marks g bs (take (i + 1) ws) ≡ left_marks g bs (take i ws)
left_same g bs ws i d h m = let e : suc i ≡ i + 1 = omega arith in subst (λ n. left_marks g bs (take n ws) ≡ left_marks g bs (take i ws)) e (same_suc g bs ws i d h m)

-- what is left is waiting
pub left_waits : (g : List Want) (bs : List Bool) (ws : List Want) → waiting_of (left_marks g bs ws) ws ≡ without g (waiting_of bs ws)
left_waits g [] [] = refl
left_waits g [] (w ∷ ws) = refl
left_waits g (b ∷ bs) [] = refl
left_waits g (true ∷ bs) (w ∷ ws) = elim (cases_Bool (is_member g w)) [
  | inl k ↦ rw k (left_waits g bs ws)
  | inr k ↦ rw k (ap (λ z. w ∷ z) (left_waits g bs ws))
]
left_waits g (false ∷ bs) (w ∷ ws) = elim (cases_Bool (is_member g w)) [
  | inl k ↦ rw k (left_waits g bs ws)
  | inr k ↦ rw k (left_waits g bs ws)
]

pub left_all : (g : List Want) (bs : List Bool) (ws : List Want) (n : ℕ) → length ws ≤ n → left_marks g bs (take n ws) ≡ left_marks g bs ws
left_all g bs ws n h = ap (left_marks g bs) (take_all n ws h)

-- with all marks all wait
pub all_wait : (n : ℕ) (ws : List Want) → length ws ≤ n → waiting_of (replicate n true) ws ≡ ws
all_wait n [] h = refl
all_wait zero (w ∷ ws) h = absurd (omega arith)
all_wait (suc n) (w ∷ ws) h = ap (λ z. w ∷ z) (all_wait n ws (omega arith))
