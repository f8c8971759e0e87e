-- Lists and their places.
use Rattle.std.proofs.Common.{◌≡◌, ◌<◌, ◌≤◌, ℕ, zero, suc, ◌+◌, inl, inr, Bool, true, false, List, [], ◌∷◌, ◌++◌, length, map, get_or, Some, take, drop, refl, sym, ap, ◌∙◌, add-one, arith}
use Rattle.std.specs.Prelude.{remove, slice_get, slice_index_or, slice_set}
use Rattle.std.specs.List.{AllByRecursion as All}
use Rattle.std.proofs.lemmas.List.{take-append-drop, take_more, take_all, map-append}
use Rattle.onfi_request.specs.declared.want.Want.{Want}
use Rattle.onfi_group.specs.Words.{Has, Pairs}
use Rattle.onfi_problem.specs.Position.{waiting_of}
use Rattle.onfi_problem.proofs.Perm.{All-append, All-weaker}
use Rattle.onfi_problem.proofs.Places.{drop_next}

pub index_get : {A : Type 0} (xs : List A) (i : ℕ) (x d : A) → slice_get xs i ≡ Some x → slice_index_or xs i d ≡ x
index_get [] i x d h = cc
index_get (y ∷ xs) zero x d h = cc
index_get (y ∷ xs) (suc i) x d h = index_get xs i x d h

-- a list is what is before a place, what stands there, and what is after it
pub cut_there : {A : Type 0} (xs : List A) (i : ℕ) (x : A) → slice_get xs i ≡ Some x → xs ≡ take i xs ++ x ∷ drop (i + 1) xs
cut_there xs i x h = sym (take-append-drop i xs) ∙ ap (λ zs. take i xs ++ zs) (drop_next xs i x h)

pub set_self : {A : Type 0} (xs : List A) (i : ℕ) (x : A) → slice_get xs i ≡ Some x → slice_set xs i x ≡ xs
set_self [] i x h = refl
set_self (y ∷ xs) zero x h = let e : x ≡ y = cc in ap (λ z. z ∷ xs) e
set_self (y ∷ xs) (suc i) x h = ap (λ zs. y ∷ zs) (set_self xs i x h)

-- What each has

pub All-take : {A : Type 0} (P : A → Type 0) (n : ℕ) (xs : List A) → All P xs → All P (take n xs)
All-take P zero xs h = tt
All-take P (suc n) [] h = tt
All-take P (suc n) (x ∷ xs) h = (h.0, All-take P n xs h.1)

pub All-drop : {A : Type 0} (P : A → Type 0) (n : ℕ) (xs : List A) → All P xs → All P (drop n xs)
All-drop P zero xs h = h
All-drop P (suc n) [] h = tt
All-drop P (suc n) (x ∷ xs) h = All-drop P n xs h.1

pub All-remove : {A : Type 0} (P : A → Type 0) (xs : List A) (i : ℕ) → All P xs → All P (remove xs i)
All-remove P xs i h = All-append P (take i xs) (drop (suc i) xs) (All-take P i xs h) (All-drop P (suc i) xs h)

pub All-set : {A : Type 0} (P : A → Type 0) (xs : List A) (i : ℕ) (y : A) → All P xs → P y → All P (slice_set xs i y)
All-set P [] i y h k = tt
All-set P (x ∷ xs) zero y h k = (k, h.1)
All-set P (x ∷ xs) (suc i) y h k = (h.0, All-set P xs i y h.1 k)

pub All-index : {A : Type 0} (P : A → Type 0) (xs : List A) (i : ℕ) (d : A) → All P xs → P d → P (slice_index_or xs i d)
All-index P [] i d h k = k
All-index P (x ∷ xs) zero d h k = h.0
All-index P (x ∷ xs) (suc i) d h k = All-index P xs i d h.1 k

-- Mapped lists

-- a mapped element is that of one that is there
pub get_map : {A B : Type 0} (f : A → B) (xs : List A) (i : ℕ) (y : B) → slice_get (map f xs) i ≡ Some y → (x : A) × (slice_get xs i ≡ Some x) × (y ≡ f x)
get_map f [] i y h = cc
get_map f (x ∷ xs) zero y h = (x, refl, cc)
get_map f (x ∷ xs) (suc i) y h = get_map f xs i y h

pub All-map : {A B : Type 0} (P : B → Type 0) (f : A → B) (xs : List A) → All (λ x. P (f x)) xs → All P (map f xs)
All-map P f [] h = tt
All-map P f (x ∷ xs) h = (h.0, All-map P f xs h.1)

-- what two have to each other, their images have
pub Pairs-map : {A B : Type 0} (f : A → B) (R : A → A → Type 0) (Q : B → B → Type 0) → ((a b : A) → R a b → Q (f a) (f b)) → (xs : List A) → Pairs R xs → Pairs Q (map f xs)
Pairs-map f R Q more [] h = tt
Pairs-map f R Q more (x ∷ xs) h = (All-map (Q (f x)) f xs (All-weaker (R x) (λ y. Q (f x) (f y)) (λ y r. more x y r) xs h.0), Pairs-map f R Q more xs h.1)

pub Has-map_back : {A B : Type 0} (f : A → B) (xs : List A) (y : B) → Has (map f xs) y → (x : A) × Has xs x × (y ≡ f x)
Has-map_back f [] y h = absurd h
Has-map_back f (x ∷ xs) y (inl e) = (x, inl refl, sym e)
Has-map_back f (x ∷ xs) y (inr h) = let (z, there, is) = Has-map_back f xs y h in (z, inr there, is)

-- a list that grows by what each element of another becomes
pub mapped_more : {A B : Type 0} (f : A → B) (xs : List A) (at : ℕ) (made : List B) (d : A) (y : B) → at < length xs → y ≡ f (get_or xs at d)
    → made ≡ map f (take at xs) → made ++ y ∷ [] ≡ map f (take (at + 1) xs)
mapped_more f xs at made d y h told so_far =
    ap (λ l. l ++ y ∷ []) so_far ∙ ap (λ z. map f (take at xs) ++ z ∷ []) told
    ∙ sym (ap (map f) (take_more xs at d h) ∙ map-append f (take at xs) (get_or xs at d ∷ []))

pub mapped_all : {A B : Type 0} (f : A → B) (xs : List A) (at : ℕ) (made : List B) → length xs ≤ at → made ≡ map f (take at xs) → made ≡ map f xs
mapped_all f xs at made h so_far = so_far ∙ ap (map f) (take_all at xs h)

-- Marked wants

-- the waiting wants with one more
yes_at : (marks : List Bool) (ws : List Want) (i : ℕ) (d : Want) → i < length ws → get_or marks i false ≡ true → waiting_of marks (take (suc i) ws) ≡ waiting_of marks (take i ws) ++ get_or ws i d ∷ []
yes_at marks [] i d h m = absurd (omega arith)
yes_at [] (w ∷ ws) i d h m = cc
yes_at (b ∷ marks) (w ∷ ws) zero d h m = let e : b ≡ true = m in rw e refl
yes_at (true ∷ marks) (w ∷ ws) (suc i) d h m = ap (λ vs. w ∷ vs) (yes_at marks ws i d (omega arith) m)
yes_at (false ∷ marks) (w ∷ ws) (suc i) d h m = yes_at marks ws i d (omega arith) m

no_at : (marks : List Bool) (ws : List Want) (i : ℕ) → get_or marks i false ≡ false → waiting_of marks (take (suc i) ws) ≡ waiting_of marks (take i ws)
no_at marks [] zero m = refl
no_at marks [] (suc i) m = refl
no_at [] (w ∷ ws) zero m = refl
no_at [] (w ∷ ws) (suc i) m = refl
no_at (b ∷ marks) (w ∷ ws) zero m = let e : b ≡ false = m in rw e refl
no_at (true ∷ marks) (w ∷ ws) (suc i) m = ap (λ vs. w ∷ vs) (no_at marks ws i m)
no_at (false ∷ marks) (w ∷ ws) (suc i) m = no_at marks ws i m

pub waiting_yes : (marks : List Bool) (ws : List Want) (i : ℕ) (d : Want) → i < length ws → get_or marks i false ≡ true → waiting_of marks (take (i + 1) ws) ≡ waiting_of marks (take i ws) ++ get_or ws i d ∷ []
waiting_yes marks ws i d h m = rw add-one (yes_at marks ws i d h m)

pub waiting_no : (marks : List Bool) (ws : List Want) (i : ℕ) → get_or marks i false ≡ false → waiting_of marks (take (i + 1) ws) ≡ waiting_of marks (take i ws)
waiting_no marks ws i m = rw add-one (no_at marks ws i m)
