-- Lists in another order, by cases.
use Rattle.std.proofs.Common.{◌≡◌, ℕ, ◌+◌, inl, inr, List, [], ◌∷◌, ◌++◌, refl, sym, ap, ◌∙◌, subst, arith, append_assoc, length, suc}
use Rattle.std.specs.List.{AllByRecursion as All, flat_map}
pub use Rattle.std.proofs.Common.{append-nil as append_nil}
use Rattle.onfi_group.specs.Words.{Has, Pairs, total}
pub use Rattle.onfi_group.proofs.Lists.{All-append, All-weaker, All-has, All-each, Has-append_left, Has-append_right, Has-append_cases, Has-map, All-both}

pub data Perm {A : Type 0} : List A → List A → Type 0 where
  none : Perm [] []
  skip : (x : A) {xs ys : List A} → Perm xs ys → Perm (x ∷ xs) (x ∷ ys)
  swap : (x y : A) (xs : List A) → Perm (x ∷ y ∷ xs) (y ∷ x ∷ xs)
  trans : {xs ys zs : List A} → Perm xs ys → Perm ys zs → Perm xs zs

pub same : {A : Type 0} (xs : List A) → Perm xs xs
same [] = none
same (x ∷ xs) = skip x (same xs)

pub back : {A : Type 0} {xs ys : List A} → Perm xs ys → Perm ys xs
back none = none
back (skip x p) = skip x (back p)
back (swap x y xs) = swap y x xs
back (trans p q) = trans (back q) (back p)

pub to_front : {A : Type 0} (xs : List A) (x : A) (ys : List A) → Perm (xs ++ x ∷ ys) (x ∷ (xs ++ ys))
to_front [] x ys = same (x ∷ ys)
to_front (y ∷ xs) x ys = trans (skip y (to_front xs x ys)) (swap y x (xs ++ ys))

pub on_left : {A : Type 0} {xs ys : List A} (zs : List A) → Perm xs ys → Perm (xs ++ zs) (ys ++ zs)
on_left zs none = same zs
on_left zs (skip x p) = skip x (on_left zs p)
on_left zs (swap x y xs) = swap x y (xs ++ zs)
on_left zs (trans p q) = trans (on_left zs p) (on_left zs q)

pub on_right : {A : Type 0} (zs : List A) {xs ys : List A} → Perm xs ys → Perm (zs ++ xs) (zs ++ ys)
on_right [] p = p
on_right (z ∷ zs) p = skip z (on_right zs p)

pub turned : {A : Type 0} (xs ys : List A) → Perm (xs ++ ys) (ys ++ xs)
turned [] ys = rw (append_nil ys) (same ys)
turned (x ∷ xs) ys = trans (skip x (turned xs ys)) (back (to_front ys x xs))

-- a block in front of two others goes between them
pub between : {A : Type 0} (xs ys zs : List A) → Perm (xs ++ (ys ++ zs)) (ys ++ (xs ++ zs))
between xs ys zs = rw (← append_assoc xs ys zs, ← append_assoc ys xs zs) (on_left zs (turned xs ys))

pub All-perm : {A : Type 0} (P : A → Type 0) {xs ys : List A} → Perm xs ys → All P xs → All P ys
All-perm P none h = tt
All-perm P (skip x p) h = (h.0, All-perm P p h.1)
All-perm P (swap x y xs) h = (h.1.0, (h.0, h.1.1))
All-perm P (trans p q) h = All-perm P q (All-perm P p h)

pub Has-perm : {A : Type 0} {xs ys : List A} (a : A) → Perm xs ys → Has xs a → Has ys a
Has-perm a none h = h
Has-perm a (skip x p) (inl e) = inl e
Has-perm a (skip x p) (inr h) = inr (Has-perm a p h)
Has-perm a (swap x y xs) (inl e) = inr (inl e)
Has-perm a (swap x y xs) (inr (inl e)) = inl e
Has-perm a (swap x y xs) (inr (inr h)) = inr (inr h)
Has-perm a (trans p q) h = Has-perm a q (Has-perm a p h)

pub Pairs-perm : {A : Type 0} (R : A → A → Type 0) → ((x y : A) → R x y → R y x) → {xs ys : List A} → Perm xs ys → Pairs R xs → Pairs R ys
Pairs-perm R s none h = tt
Pairs-perm R s (skip x p) h = (All-perm (R x) p h.0, Pairs-perm R s p h.1)
Pairs-perm R s (swap x y xs) h = ((s x y h.0.0, h.1.0), (h.0.1, h.1.1))
Pairs-perm R s (trans p q) h = Pairs-perm R s q (Pairs-perm R s p h)

pub length_perm : {A : Type 0} {xs ys : List A} → Perm xs ys → length xs ≡ length ys
length_perm none = refl
length_perm (skip x p) = ap suc (length_perm p)
length_perm (swap x y xs) = refl
length_perm (trans p q) = length_perm p ∙ length_perm q

pub total-perm : {A : Type 0} (f : A → ℕ) {xs ys : List A} → Perm xs ys → total f xs ≡ total f ys
total-perm f none = refl
total-perm f (skip x p) = ap (λ n. f x + n) (total-perm f p)
total-perm f (swap x y xs) = omega arith
total-perm f (trans p q) = total-perm f p ∙ total-perm f q

pub flat_map-perm : {A B : Type 0} (f : A → List B) {xs ys : List A} → Perm xs ys → Perm (flat_map f xs) (flat_map f ys)
flat_map-perm f none = none
flat_map-perm f (skip x p) = on_right (f x) (flat_map-perm f p)
flat_map-perm f (swap x y xs) = between (f x) (f y) (flat_map f xs)
flat_map-perm f (trans p q) = trans (flat_map-perm f p) (flat_map-perm f q)

pub All-front : {A : Type 0} (P : A → Type 0) (xs ys : List A) → All P (xs ++ ys) → All P xs
All-front P [] ys h = tt
All-front P (x ∷ xs) ys h = (h.0, All-front P xs ys h.1)

pub All-back : {A : Type 0} (P : A → Type 0) (xs ys : List A) → All P (xs ++ ys) → All P ys
All-back P [] ys h = h
All-back P (x ∷ xs) ys h = All-back P xs ys h.1

-- without one of them
pub taken_out : {A : Type 0} (xs : List A) (x : A) → Has xs x → (ys : List A) × Perm xs (x ∷ ys)
taken_out [] x h = absurd h
taken_out (y ∷ xs) x (inl e) = (xs, rw e (same (x ∷ xs)))
taken_out (y ∷ xs) x (inr h) = let r = taken_out xs x h in (y ∷ r.0, trans (skip y r.1) (swap y x r.0))

pub Has-flat_map : {A B : Type 0} (f : A → List B) (xs : List A) (y : B) → Has (flat_map f xs) y → (x : A) × Has xs x × Has (f x) y
Has-flat_map f [] y h = absurd h
Has-flat_map f (x ∷ xs) y h = elim (Has-append_cases (f x) (flat_map f xs) y h) [ inl k ↦ (x, inl refl, k) | inr k ↦ (let r = Has-flat_map f xs y k in (r.0, inr r.1, r.2)) ]

pub All-flat_map : {A B : Type 0} (P : B → Type 0) (f : A → List B) (xs : List A) → All P (flat_map f xs) → All (λ x. All P (f x)) xs
All-flat_map P f [] h = tt
All-flat_map P f (x ∷ xs) h = (All-front P (f x) (flat_map f xs) h, All-flat_map P f xs (All-back P (f x) (flat_map f xs) h))

pub Has-flat_map_in : {A B : Type 0} (f : A → List B) (xs : List A) (x : A) (y : B) → Has xs x → Has (f x) y → Has (flat_map f xs) y
Has-flat_map_in f [] x y h k = absurd h
Has-flat_map_in f (z ∷ xs) x y (inl e) k = Has-append_left (f z) (flat_map f xs) y (subst (λ w. Has (f w) y) (sym e) k)
Has-flat_map_in f (z ∷ xs) x y (inr h) k = Has-append_right (f z) (flat_map f xs) y (Has-flat_map_in f xs x y h k)
