-- Lists: what holds of each element, and of each two in their order.
use Rattle.std.proofs.Common.{◌≡◌, ℕ, zero, suc, ◌+◌, ◌<◌, ◌⊎◌, inl, inr, Bool, true, List, [], ◌∷◌, ◌++◌, length, map, take, get_or, Some, refl, ap, ◌∙◌, subst, arith}
use Rattle.std.specs.Prelude.{if◌then◌else◌, slice_get}
use Rattle.std.specs.List.{AllByRecursion as All, filter}
use Rattle.std.proofs.lemmas.Bool.{cases_Bool}
use Rattle.std.proofs.lemmas.List.{take_more}
use Rattle.onfi_group.specs.Words.{Has, Pairs, total, number}

pub All-append : {A : Type 0} (P : A → Type 0) (xs ys : List A) → All P xs → All P ys → All P (xs ++ ys)
All-append P [] ys h k = k
All-append P (x ∷ xs) ys h k = (h.0, All-append P xs ys h.1 k)

pub All-weaker : {A : Type 0} (P Q : A → Type 0) → ((x : A) → P x → Q x) → (xs : List A) → All P xs → All Q xs
All-weaker P Q f [] h = tt
All-weaker P Q f (x ∷ xs) h = (f x h.0, All-weaker P Q f xs h.1)

pub All-both : {A : Type 0} (P Q R : A → Type 0) → ((x : A) → P x → Q x → R x) → (xs : List A) → All P xs → All Q xs → All R xs
All-both P Q R f [] h k = tt
All-both P Q R f (x ∷ xs) h k = (f x h.0 k.0, All-both P Q R f xs h.1 k.1)

pub All-has : {A : Type 0} (P : A → Type 0) (xs : List A) (x : A) → All P xs → Has xs x → P x
All-has P [] x h k = absurd k
All-has P (y ∷ ys) x h (inl e) = subst P e h.0
All-has P (y ∷ ys) x h (inr k) = All-has P ys x h.1 k

pub All-each : {A : Type 0} (P : A → Type 0) (xs : List A) → ((x : A) → Has xs x → P x) → All P xs
All-each P [] f = tt
All-each P (x ∷ xs) f = (f x (inl refl), All-each P xs (λ y k. f y (inr k)))

pub Has-append_left : {A : Type 0} (xs ys : List A) (x : A) → Has xs x → Has (xs ++ ys) x
Has-append_left [] ys x h = absurd h
Has-append_left (y ∷ xs) ys x (inl e) = inl e
Has-append_left (y ∷ xs) ys x (inr h) = inr (Has-append_left xs ys x h)

pub Has-append_right : {A : Type 0} (xs ys : List A) (x : A) → Has ys x → Has (xs ++ ys) x
Has-append_right [] ys x h = h
Has-append_right (y ∷ xs) ys x h = inr (Has-append_right xs ys x h)

pub Has-append_cases : {A : Type 0} (xs ys : List A) (x : A) → Has (xs ++ ys) x → Has xs x ⊎ Has ys x
Has-append_cases [] ys x h = inr h
Has-append_cases (y ∷ xs) ys x (inl e) = inl (inl e)
Has-append_cases (y ∷ xs) ys x (inr h) = elim (Has-append_cases xs ys x h) [ inl k ↦ inl (inr k) | inr k ↦ inr k ]

pub Pairs-append : {A : Type 0} (R : A → A → Type 0) (xs ys : List A) → Pairs R xs → Pairs R ys → ((x y : A) → Has xs x → Has ys y → R x y) → Pairs R (xs ++ ys)
Pairs-append R [] ys a b c = b
Pairs-append R (x ∷ xs) ys a b c = (All-append (R x) xs ys a.0 (All-each (R x) ys (λ y h. c x y (inl refl) h)), Pairs-append R xs ys a.1 b (λ u v h k. c u v (inr h) k))

pub Has-get : {A : Type 0} (xs : List A) (i : ℕ) (d : A) → i < length xs → Has xs (get_or xs i d)
Has-get [] i d h = absurd (omega arith)
Has-get (x ∷ xs) zero d h = inl refl
Has-get (x ∷ xs) (suc i) d h = inr (Has-get xs i d (omega arith))

-- one more of a list's first elements
pub Has-taken_more : {A : Type 0} (xs : List A) (i : ℕ) (d x : A) → i < length xs → Has (take i xs) x → Has (take (i + 1) xs) x
Has-taken_more xs i d x h k = let e = take_more xs i d h in rw e (Has-append_left (take i xs) (get_or xs i d ∷ []) x k)

pub Has-taken_last : {A : Type 0} (xs : List A) (i : ℕ) (d : A) → i < length xs → Has (take (i + 1) xs) (get_or xs i d)
Has-taken_last xs i d h = let e = take_more xs i d h in rw e (Has-append_right (take i xs) (get_or xs i d ∷ []) (get_or xs i d) (inl refl))

pub Has-taken_cases : {A : Type 0} (xs : List A) (i : ℕ) (d x : A) → i < length xs → Has (take (i + 1) xs) x → Has (take i xs) x ⊎ (get_or xs i d ≡ x)
Has-taken_cases {A} xs i d x h k =
    let e = take_more xs i d h in
    let q : Has (take i xs ++ get_or xs i d ∷ []) x = rw e at k in
    elim (Has-append_cases (take i xs) (get_or xs i d ∷ []) x q) [ inl a ↦ inl a | inr (inl b) ↦ inr b | inr (inr b) ↦ absurd b ]

pub Has-map : {A B : Type 0} (f : A → B) (xs : List A) (x : A) → Has xs x → Has (map f xs) (f x)
Has-map f [] x h = absurd h
Has-map f (y ∷ xs) x (inl e) = inl (ap f e)
Has-map f (y ∷ xs) x (inr h) = inr (Has-map f xs x h)

pub Has-filter : {A : Type 0} (test : A → Bool) (xs : List A) (x : A) → Has xs x → test x ≡ true → Has (filter test xs) x
Has-filter test [] x h e = absurd h
Has-filter test (y ∷ ys) x (inl q) e = let k : test y ≡ true = ap test q ∙ e in rw k (inl q)
Has-filter test (y ∷ ys) x (inr h) e = elim (cases_Bool (test y)) [ inl k ↦ rw k (inr (Has-filter test ys x h e)) | inr k ↦ rw k (Has-filter test ys x h e) ]

-- the first that passes a test is there
pub first_has : {A : Type 0} (test : A → Bool) (xs : List A) (x : A) → slice_get (filter test xs) 0 ≡ Some x → Has xs x
first_has test [] x h = cc
first_has test (y ∷ ys) x h = elim (cases_Bool (test y)) [
  | inl k ↦ (let q : Some y ≡ Some x = rw k at h in inl (cc))
  | inr k ↦ inr (first_has test ys x (rw k at h))
]

pub Pairs-weaker : {A : Type 0} (R Q : A → A → Type 0) → ((x y : A) → R x y → Q x y) → (xs : List A) → Pairs R xs → Pairs Q xs
Pairs-weaker R Q f [] h = tt
Pairs-weaker R Q f (x ∷ xs) h = (All-weaker (R x) (Q x) (f x) xs h.0, Pairs-weaker R Q f xs h.1)

-- the same of the elements alone
pub Pairs-each : {A : Type 0} (R Q : A → A → Type 0) (xs : List A) → Pairs R xs → ((x y : A) → Has xs x → Has xs y → R x y → Q x y) → Pairs Q xs
Pairs-each R Q [] h f = tt
Pairs-each R Q (x ∷ xs) h f = (All-each (Q x) xs (λ y k. f x y (inl refl) (inr k) (All-has (R x) xs y h.0 k)), Pairs-each R Q xs h.1 (λ a b i j. f a b (inr i) (inr j)))

pub total-append : {A : Type 0} (f : A → ℕ) (xs ys : List A) → total f (xs ++ ys) ≡ total f xs + total f ys
total-append f [] ys = omega arith
total-append f (x ∷ xs) ys = let e = total-append f xs ys in omega arith

pub number-append : {A : Type 0} (test : A → Bool) (xs ys : List A) → number test (xs ++ ys) ≡ number test xs + number test ys
number-append test xs ys = total-append (λ x. if test x then 1 else 0) xs ys
