-- Two of a list.
use Rattle.std.proofs.Common.{◌≡◌, ℕ, zero, suc, ◌+◌, ◌<◌, List, [], ◌∷◌, length, take, drop, map, get_or, inl, inr, refl, sym, ap, subst, arith}
use Rattle.std.specs.List.{Any}
use Rattle.onfi_group.specs.Words.{Has}
use Rattle.onfi_group.proofs.Lists.{Has-get}
use Rattle.onfi_problem.proofs.Perm.{Has-map}
use Rattle.onfi_schedule.specs.Tells.{ArePair, AreTwo}

pub has_taken : {A : Type 0} (n : ℕ) (xs : List A) (o : A) → Has (take n xs) o → Has xs o
has_taken zero xs o h = absurd h
has_taken (suc n) [] o h = h
has_taken (suc n) (x ∷ xs) o (inl e) = inl e
has_taken (suc n) (x ∷ xs) o (inr h) = inr (has_taken n xs o h)

-- one at a place, and one of those after it
pub pair_at : {A : Type 0} (xs : List A) (i j : ℕ) (d o : A) → j ≡ i + 1 → i < length xs → Has (drop j xs) o → ArePair xs (get_or xs i d) o
pair_at [] i j d o e h k = absurd (omega (arith, h))
pair_at (x ∷ xs) zero zero d o e h k = absurd (omega (arith, e))
pair_at (x ∷ xs) zero (suc j) d o e h k =
    let first : j ≡ 0 = omega (arith, e) in
    inl (refl, rw first at k)
pair_at (x ∷ xs) (suc i) zero d o e h k = absurd (omega (arith, e))
pair_at (x ∷ xs) (suc i) (suc j) d o e h k = inr (pair_at xs i j d o (omega (arith, e)) (omega (arith, h)) k)

pub pair_mapped : {A B : Type 0} (f : A → B) (xs : List A) (x y : A) → ArePair xs x y → ArePair (map f xs) (f x) (f y)
pair_mapped f [] x y h = absurd h
pair_mapped f (z ∷ zs) x y (inl h) = inl (ap f h.0, Has-map f zs y h.1)
pair_mapped f (z ∷ zs) x y (inr h) = inr (pair_mapped f zs x y h)

-- the other one first
pub exchanged : {A : Type 0} (xs : List A) (x y : A) → AreTwo xs x y → AreTwo xs y x
exchanged xs x y (inl h) = inr h
exchanged xs x y (inr h) = inl h

-- where one has the property, some have
pub any_has : {A : Type 0} (P : A → Type 0) (xs : List A) (x : A) → Has xs x → P x → Any P xs
any_has P [] x h q = absurd h
any_has P (y ∷ ys) x (inl e) q = (0, x, omega arith, e, q)
any_has P (y ∷ ys) x (inr h) q = let r = any_has P ys x h q in (suc r.0, r.1, omega (arith, r.2), r.3, r.4)

-- one at a place is one of the same list
pub item_has : {A : Type 0} (xs ys : List A) (i : ℕ) (x : A) → x ≡ get_or xs i x → i < length xs → ys ≡ xs → Has ys x
item_has xs ys i x is h e = subst (λ zs. Has zs x) (sym e) (subst (λ z. Has xs z) (sym is) (Has-get xs i x h))
